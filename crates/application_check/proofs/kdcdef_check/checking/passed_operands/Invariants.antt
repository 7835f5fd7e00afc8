use Rattle.std.proofs.Common.{◌≡◌, take}
use Rattle.application_types.specs.Statements.{passed_count}
use Rattle.application_check.proofs.kdcdef_check.checking.passed_operands.Given as goal

abbrev pub invariant-loop-statement : goal.invariant-loop-statement
invariant-loop-statement l = l.count ≡ passed_count (take l.statement-index l.statements)
