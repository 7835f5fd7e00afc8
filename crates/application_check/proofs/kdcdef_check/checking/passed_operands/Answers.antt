use Rattle.std.proofs.Common.{arith}
use Rattle.application_check.proofs.kdcdef_check.PassedOperands.{next_passed, passed_bounded}
use Rattle.application_check.proofs.kdcdef_check.checking.passed_operands.Goals as goal

pub overflow_add-count : goal.overflow_add-count
overflow_add-count c = omega (arith, c.requires, passed_bounded c.args.statements.now c.loop-statement.statement-index c.statement-item.result c.loop-statement.count c.loop-statement-test.true c.statement-item.is c.loop-statement.invariant)

pub loop-statement-preserved : goal.loop-statement-preserved
loop-statement-preserved c = next_passed c.args.statements.now c.loop-statement.statement-index c.statement-item.result c.loop-statement.count c.loop-statement-test.true c.statement-item.is c.loop-statement.invariant
