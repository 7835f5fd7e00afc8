use Rattle.kdcfile_layout.specs.ReadExamplesLaws.{worked_rows}
use Rattle.kdcfile_layout.proofs.kdcfile_read.laws.worked_rows.Goals as goal

pub returns : goal.returns
returns c = worked_rows
