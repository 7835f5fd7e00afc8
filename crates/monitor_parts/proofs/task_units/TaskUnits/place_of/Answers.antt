use Rattle.std.proofs.Common.{◌∙◌}
use Rattle.monitor_parts.proofs.task_units.Placing.{unit_placed}
use Rattle.monitor_parts.proofs.task_units.TaskUnits.place_of.Goals as goal

pub returns : goal.returns
returns c =
    rw (← c.self.view_is)
    (unit_placed c.self.inside.units c.args.tac c.in_ok-unit.unit.now c.in_ok-place.place.now c.in_ok-unit.ensures.unit
    (rw c.name.ensures at (c.in_ok-place.ensures.value ∙ c.self.invariant.0 c.name.result.now)))
