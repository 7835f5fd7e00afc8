use Rattle.laws_of_states.proofs.abstract_examples.RowsHold.{serial_rows}
use Rattle.laws_of_states.proofs.abstract_examples.serial_rows.Goals as goal

pub returns : goal.returns
returns c = serial_rows
