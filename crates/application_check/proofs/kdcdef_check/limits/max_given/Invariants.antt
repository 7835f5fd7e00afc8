use Rattle.std.proofs.Common.{◌≡◌, take}
use Rattle.application_check.specs.Generating.{max_given}
use Rattle.application_check.proofs.kdcdef_check.limits.max_given.Given as goal

abbrev pub invariant-loop-statement : goal.invariant-loop-statement
invariant-loop-statement l = l.given ≡ max_given (take l.statement-index l.statements)
