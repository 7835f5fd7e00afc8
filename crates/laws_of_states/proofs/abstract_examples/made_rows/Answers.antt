use Rattle.laws_of_states.proofs.abstract_examples.RowsHold.{made_rows}
use Rattle.laws_of_states.proofs.abstract_examples.made_rows.Goals as goal

pub returns : goal.returns
returns c = made_rows
