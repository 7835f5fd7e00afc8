use Rattle.std.proofs.Common.{◌≡◌, drop}
use Rattle.application_check.specs.Generating.{double_said}
use Rattle.application_check.proofs.kdcdef_check.limits.double_said.Given as goal

abbrev pub invariant-loop-statement : goal.invariant-loop-statement
invariant-loop-statement l = double_said (drop l.statement-index l.statements) ≡ double_said l.statements
