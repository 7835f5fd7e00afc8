use Rattle.std.proofs.Common.{◌∙◌, ap, count_by}
use Rattle.std.proofs.lemmas.List.{take_all}
use Rattle.application_types.specs.declared.kdcdef_types.statement.Statement.{Statement}
use Rattle.application_check.specs.Steps.{is_restart}
use Rattle.application_check.proofs.kdcdef_check.Counting.{restarts_said}
use Rattle.application_check.proofs.kdcdef_check.whole.restart_count.Goals as goal

pub returns-clause-count : goal.returns-clause-count
returns-clause-count c =
    c.loop-statement.invariant.count
    ∙ ap (count_by (λ (s : Statement). is_restart s.said)) (take_all c.loop-statement.statement-index c.args.statements.now c.loop-statement-test.false)
    ∙ restarts_said c.args.statements.now
