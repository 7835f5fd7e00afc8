use Rattle.kdcs_types.specs.DifferenceLaws.{difference_exact, difference_changes, difference_makes_new, difference_is_changes}
use Rattle.kdcs_types.proofs.laws.tables_change_by_their_difference.Goals as goal

pub returns : goal.returns
returns c = record { exact = difference_exact; changes = difference_changes; new = difference_makes_new; back = difference_is_changes }
