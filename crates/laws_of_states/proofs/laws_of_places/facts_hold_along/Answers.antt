use Rattle.laws_of_states.proofs.laws_of_places.Keeping.{sound_steps_keep, facts_hold}
use Rattle.laws_of_states.proofs.laws_of_places.facts_hold_along.Goals as goal

pub returns : goal.returns
returns c = record { steps = sound_steps_keep; scripts = facts_hold }
