use Rattle.laws_of_states.specs.OwnRowLaws.{points_set, ends_remove}
use Rattle.laws_of_states.proofs.laws_of_steps.ends_change_their_own_row.Goals as goal

pub returns : goal.returns
returns c = record { points = points_set; ends = ends_remove }
