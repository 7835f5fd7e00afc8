use Rattle.kdcfile_layout.specs.ExamplesLaws.{worked_rows}
use Rattle.kdcfile_layout.proofs.laws.worked_rows.Goals as goal

pub returns : goal.returns
returns c = worked_rows
