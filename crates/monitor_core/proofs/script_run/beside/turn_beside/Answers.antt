use Rattle.std.proofs.Common.{ap, ◌∙◌}
use Rattle.abstract_monitor.specs.Commands.{turned_step}
use Rattle.abstract_monitor.specs.Turns.{Turned, turn_of}
use Rattle.monitor_core.specs.KeepingLaws.{acts_are_kept, durable_after}
use Rattle.monitor_core.proofs.script_run.beside.turn_beside.Goals as goal

pub keep_commits-requires : goal.keep_commits-requires
keep_commits-requires c =
    let exact = c.in_ok-next.ensures.exact in
    acts_are_kept c.steps_commit_once.ensures.tables c.args.core c.in_ok-next.next (turned_step (turn_of c.args.core.application c.args.core.state c.args.task)) c.tables-before.ensures.order c.tables-after.ensures.order c.in_ok-next.ensures.one.application (ap (λ (t : Turned). t.after) exact) (c.steps_commit_once.ensures.turns c.args.core.application c.args.core.state c.args.task)
    c.as_slice.result.now (c.as_slice.ensures ∙ ap (λ (t : Turned). t.acts) exact)

pub returns-clause-durable : goal.returns-clause-durable
returns-clause-durable c =
    let exact = c.in_ok-next.ensures.exact in
    durable_after c.steps_commit_once.ensures.tables c.args.core c.in_ok-next.next (turned_step (turn_of c.args.core.application c.args.core.state c.args.task)) c.tables-before.ensures.order c.tables-after.ensures.order c.in_ok-next.ensures.one.application (ap (λ (t : Turned). t.after) exact) (c.steps_commit_once.ensures.turns c.args.core.application c.args.core.state c.args.task)
    c.as_slice.result.now (c.as_slice.ensures ∙ ap (λ (t : Turned). t.acts) exact) c.args.durable.now c.keep_commits.new.durable c.requires.durable c.in_ok-keep_commits.ensures
