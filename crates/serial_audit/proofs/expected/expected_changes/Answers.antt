use Rattle.laws_of_runs.specs.Applied.{applied}
use Rattle.serial_audit.proofs.Expects.{show_by, tick_by}
use Rattle.serial_audit.proofs.expected.expected_changes.Goals as goal

pub returns-in-Tick-clause-expected : goal.returns-in-Tick-clause-expected
returns-in-Tick-clause-expected c = tick_by (applied c.args.generation.now c.args.units.now) c.args.tables.now c.clock-clock.ensures.sorted c.requires.suits c.in-Tick.ticks c.args.by.now c.in-Tick.is c.ticked.result c.ticked.ensures.some c.ticked.ensures.none

pub returns-in-Shown-clause-expected : goal.returns-in-Shown-clause-expected
returns-in-Shown-clause-expected c = show_by (applied c.args.generation.now c.args.units.now) c.args.tables.now c.clock-clock.ensures.sorted c.requires.suits c.in-Shown.lterm c.args.by.now c.in-Shown.is c.show_changes.result c.show_changes.ensures.some c.show_changes.ensures.none
