use Rattle.laws_of_states.proofs.abstract_examples.RowsHold.{dialogue_rows}
use Rattle.laws_of_states.proofs.abstract_examples.dialogue_rows.Goals as goal

pub returns : goal.returns
returns c = dialogue_rows
