use Rattle.laws_of_states.specs.DurableLaws.{durable_changed}
use Rattle.laws_of_states.proofs.laws_of_steps.durable_part_is_changed.Goals as goal

pub returns : goal.returns
returns c = durable_changed
