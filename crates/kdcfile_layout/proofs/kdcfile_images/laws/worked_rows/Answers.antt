use Rattle.kdcfile_layout.specs.ImageExamplesLaws.{worked_rows}
use Rattle.kdcfile_layout.proofs.kdcfile_images.laws.worked_rows.Goals as goal

pub returns : goal.returns
returns c = worked_rows
