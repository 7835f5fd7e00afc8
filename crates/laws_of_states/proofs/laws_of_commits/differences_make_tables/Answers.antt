use Rattle.laws_of_states.specs.MakingLaws.{are_changes, makes, makes_with_row, one_row}
use Rattle.laws_of_states.proofs.laws_of_commits.differences_make_tables.Goals as goal

pub returns : goal.returns
returns c = record { changes = are_changes; tables = makes; row = makes_with_row; one = one_row }
