use Rattle.std.proofs.Common.{ap, ◌∙◌}
use Rattle.std.specs.Option.{option_map}
use Rattle.abstract_monitor.specs.Commands.{maker_of, turned_step}
use Rattle.abstract_monitor.specs.Turns.{Turned, turn_of}
use Rattle.monitor_core.specs.KeepingLaws.{did_turn}
use Rattle.trail_run.specs.Entries.{by_of, changes_among, entry_by}
use Rattle.trail_run.specs.RunningLaws.{did_step}
use Rattle.trail_run.proofs.steps.KeptSink.turn.Goals as goal

pub returns-clause-took : goal.returns-clause-took
returns-clause-took c =
    let exact = c.in_ok-next.ensures.exact in
    did_step c.args.core c.args.self.now (turned_step (turn_of c.args.core.application c.args.core.state c.args.task)) c.in_ok-next.next _ c.in_ok-next.ensures.one.application (ap (λ (t : Turned). t.after) exact) c.in_ok-next.ensures.durable
    (entry_by (changes_among c.in_ok-next.did.acts) c.in_ok-by.by)
    (λ i. entry_by (changes_among (exact i).acts) ((c.in_ok-by.ensures ∙ ap (λ (t : Turned). option_map by_of (maker_of t.settled)) exact) i))
    c.in_ok-put_entry.ensures

pub returns-clause-turned : goal.returns-clause-turned
returns-clause-turned c = did_turn c.args.core c.args.task c.in_ok-next.next c.in_ok-next.did c.in_ok-next.ensures.exact c.in_ok-next.ensures.one
