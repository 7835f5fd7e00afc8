use Rattle.lab_orders.proofs.Worked.{orders_are_walked}
use Rattle.lab_orders.proofs.laws_of_orders.orders_are_walked.Goals as goal

pub returns : goal.returns
returns c = orders_are_walked (c.facts_hold_along.ensures.steps c.states_stay_sound.ensures)
