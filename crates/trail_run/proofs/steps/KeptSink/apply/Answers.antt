use Rattle.std.proofs.Common.{◌∙◌}
use Rattle.abstract_monitor.specs.Commands.{command_of}
use Rattle.trail_run.specs.Entries.{changes_among, entry_by}
use Rattle.trail_run.specs.RunningLaws.{did_step}
use Rattle.trail_run.proofs.Making.{made_by}
use Rattle.trail_run.proofs.steps.KeptSink.apply.Goals as goal

pub returns-clause-took : goal.returns-clause-took
returns-clause-took c =
    let app = c.args.core.application in
    let s = c.args.core.state in
    let exact = c.in_ok-next.ensures.exact in
    did_step c.args.core c.args.self.now (command_of app s c.args.command.now) c.in_ok-next.next _ c.in_ok-next.ensures.one.application exact.state c.in_ok-next.ensures.durable
    (entry_by (changes_among c.in_ok-next.acts) c.maker_for-by.result)
    ((λ i. entry_by (changes_among (exact.acts i)) (c.maker_for-by.ensures i)) ∙ made_by app s c.args.command.now c.requires.core_command)
    c.in_ok-put_entry.ensures
