use Rattle.std.proofs.Common.{refl}
use Rattle.std.proofs.lemmas.Result.{IfOk-weaker}
use Rattle.monitor_core.specs.Commanding.{shown_line}
use Rattle.monitor_core.specs.Showing.{shown_job}
use Rattle.monitor_core.specs.StatedLaws.{sound_tables}
use Rattle.monitor_core.proofs.Shows.{nothing_comes, shown_comes, shown_fits}
use Rattle.monitor_core.proofs.showing.show_next.Goals as goal

pub returns-in_default-clause-exact : goal.returns-in_default-clause-exact
returns-in_default-clause-exact c =
    IfOk-weaker c.no_message.result _ _
    (nothing_comes c.args.parts.now c.args.lterm.now _ (shown_line c.args.shown c.args.pterm.now) _ c.in_default.ensures refl)
    c.no_message.ensures

pub change-requires-clause-before : goal.change-requires-clause-before
change-requires-clause-before c = c.requires.whole.facts.1.suits.charge

pub change-requires-clause-after : goal.change-requires-clause-after
change-requires-clause-after c =
    shown_fits c.args.parts.now c.args.lterm.now (shown_job c.in-Some.due) c.clock-clock.ensures.sorted c.in-Some.ensures
    (sound_tables c.args.parts.now c.requires.whole.facts) _ c.in_ok-line.ensures.changes

pub returns-clause-exact : goal.returns-clause-exact
returns-clause-exact c =
    IfOk-weaker c.line_behind.result _ _
    (shown_comes c.args.parts.now c.args.lterm.now (shown_job c.in-Some.due) c.clock-clock.ensures.sorted c.in-Some.ensures
    _ (shown_line c.args.shown c.args.pterm.now) _ _ _ c.in_ok-line.ensures.changes c.in_ok-line.ensures.line c.in_ok-change.ensures.state)
    c.line_behind.ensures
