use Rattle.laws_of_states.proofs.abstract_examples.RowsHold.{end_rows}
use Rattle.laws_of_states.proofs.abstract_examples.end_rows.Goals as goal

pub returns : goal.returns
returns c = end_rows
