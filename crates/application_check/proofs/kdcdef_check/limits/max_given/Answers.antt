use Rattle.std.proofs.Common.{◌∙◌, ap}
use Rattle.application_check.specs.Generating.{both_given}
use Rattle.application_check.proofs.kdcdef_check.GivenOperands.{next_given}
use Rattle.application_check.proofs.kdcdef_check.limits.max_given.Goals as goal

pub loop-statement-preserved : goal.loop-statement-preserved
loop-statement-preserved c =
    c.both_given-given.ensures
    ∙ ap (both_given c.loop-statement.given) c.operands_said.ensures
    ∙ next_given c.args.statements.now c.loop-statement.statement-index c.statement-item.result c.loop-statement.given c.loop-statement-test.true c.statement-item.is c.loop-statement.invariant
