use Rattle.laws_of_states.proofs.abstract_examples.RowsHold.{job_rows}
use Rattle.laws_of_states.proofs.abstract_examples.job_rows.Goals as goal

pub returns : goal.returns
returns c = job_rows
