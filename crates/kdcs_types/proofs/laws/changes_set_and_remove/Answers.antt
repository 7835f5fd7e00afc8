use Rattle.kdcs_types.specs.RowLaws.{rows_changed, changed_sorted, numbers_changed, same_tables}
use Rattle.kdcs_types.proofs.laws.changes_set_and_remove.Goals as goal

pub returns : goal.returns
returns c = record { rows = rows_changed; numbers = numbers_changed; sorted = changed_sorted; known = same_tables }
