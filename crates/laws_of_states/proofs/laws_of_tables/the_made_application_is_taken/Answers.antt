use Rattle.laws_of_states.proofs.laws_of_tables.Made.{made_is_application, made_start_is_sound}
use Rattle.laws_of_states.proofs.laws_of_tables.the_made_application_is_taken.Goals as goal

pub returns : goal.returns
returns c = record { application = made_is_application; start = made_start_is_sound }
