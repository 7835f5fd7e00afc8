use Rattle.laws_of_states.proofs.abstract_examples.RowsHold.{access_rows}
use Rattle.laws_of_states.proofs.abstract_examples.access_rows.Goals as goal

pub returns : goal.returns
returns c = access_rows
