use Rattle.laws_of_states.proofs.abstract_examples.RowsHold.{hello_rows}
use Rattle.laws_of_states.proofs.abstract_examples.hello_rows.Goals as goal

pub returns : goal.returns
returns c = hello_rows
