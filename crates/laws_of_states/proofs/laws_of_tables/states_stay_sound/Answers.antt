use Rattle.laws_of_states.specs.CommandedLaws.{states_stay_sound}
use Rattle.laws_of_states.proofs.laws_of_tables.states_stay_sound.Goals as goal

pub returns : goal.returns
returns c = states_stay_sound
