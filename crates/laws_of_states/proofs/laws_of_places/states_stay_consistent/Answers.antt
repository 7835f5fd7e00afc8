use Rattle.laws_of_states.proofs.laws_of_places.Keeping.{turns_stay, commands_stay, starts_are}
use Rattle.laws_of_states.proofs.laws_of_places.states_stay_consistent.Goals as goal

pub returns : goal.returns
returns c = record { turns = turns_stay; commands = commands_stay; starts = starts_are }
