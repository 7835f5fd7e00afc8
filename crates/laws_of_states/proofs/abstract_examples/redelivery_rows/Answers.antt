use Rattle.laws_of_states.proofs.abstract_examples.RowsHold.{redelivery_rows}
use Rattle.laws_of_states.proofs.abstract_examples.redelivery_rows.Goals as goal

pub returns : goal.returns
returns c = redelivery_rows
