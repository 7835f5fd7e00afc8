use Rattle.monitor_core.proofs.SoundStart.{sound_start}
use Rattle.monitor_core.proofs.monitor.Core.start.Goals as goal

pub invariant_of-result : goal.invariant_of-result
invariant_of-result c =
    let made = c.in_ok-parts_of.ensures in
    sound_start c.in_ok-parts_of.field-0.value c.args.generation c.args.units c.args.tables c.replays_hold_along_every_script.ensures.steps
    c.requires.fit c.fitted_units_make_an_application.ensures c.clock-clock.ensures.sorted c.requires.suits made.generation made.units made.indexed made.state

pub returns-clause-facts : goal.returns-clause-facts
returns-clause-facts c = (invariant_of-result c).whole.facts

pub returns-clause-replays : goal.returns-clause-replays
returns-clause-replays c = (invariant_of-result c).replays
