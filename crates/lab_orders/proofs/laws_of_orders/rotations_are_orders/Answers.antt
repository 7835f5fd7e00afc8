use Rattle.lab_orders.proofs.Rotating.{rotations_are_orders}
use Rattle.lab_orders.proofs.laws_of_orders.rotations_are_orders.Goals as goal

pub returns : goal.returns
returns c = rotations_are_orders (c.facts_hold_along.ensures.steps c.states_stay_sound.ensures)
