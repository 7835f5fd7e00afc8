use Rattle.laws_of_states.proofs.abstract_examples.RowsHold.{lock_rows}
use Rattle.laws_of_states.proofs.abstract_examples.lock_rows.Goals as goal

pub returns : goal.returns
returns c = lock_rows
