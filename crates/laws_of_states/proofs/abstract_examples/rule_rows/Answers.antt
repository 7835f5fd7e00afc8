use Rattle.laws_of_states.proofs.abstract_examples.RowsHold.{rule_rows}
use Rattle.laws_of_states.proofs.abstract_examples.rule_rows.Goals as goal

pub returns : goal.returns
returns c = rule_rows
