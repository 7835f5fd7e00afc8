-- The first due job of the queue is in the tables.
use Rattle.std.proofs.Common.{sym, ◌∙◌}
use Rattle.kd_base.specs.ToolsLaws.{map_none}
use Rattle.open_transaction.specs.Queue.{untaken}
use Rattle.abstract_monitor.specs.Commands.{due_for}
use Rattle.service_ends.specs.Standing.{state_of}
use Rattle.monitor_core.proofs.Shows.{first_is, one_due}
use Rattle.monitor_core.proofs.showing.due_for.Goals as goal

pub returns-in-Some : goal.returns-in-Some
returns-in-Some c =
    c.job_at.ensures
    ∙ one_due c.args.parts.now c.args.lterm.now c.in-Some.queued c.clock-clock.ensures.sorted
    (sym c.in-Some.is ∙ c.first_for-first.ensures ∙ first_is c.args.parts.now c.args.lterm.now c.clock-clock.result c.requires c.clock-clock.ensures.value)

pub returns-in-None : goal.returns-in-None
returns-in-None c =
    sym (map_none untaken (due_for (state_of c.args.parts.now) c.args.lterm.now)
    (sym (sym c.in-None.is ∙ c.first_for-first.ensures ∙ first_is c.args.parts.now c.args.lterm.now c.clock-clock.result c.requires c.clock-clock.ensures.value)))
