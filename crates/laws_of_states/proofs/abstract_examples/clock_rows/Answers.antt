use Rattle.laws_of_states.proofs.abstract_examples.RowsHold.{clock_rows}
use Rattle.laws_of_states.proofs.abstract_examples.clock_rows.Goals as goal

pub returns : goal.returns
returns c = clock_rows
