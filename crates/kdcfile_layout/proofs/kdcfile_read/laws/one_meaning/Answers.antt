use Rattle.kdcfile_layout.specs.ReadFilesLaws.{one_meaning}
use Rattle.kdcfile_layout.proofs.kdcfile_read.laws.one_meaning.Goals as goal

pub returns : goal.returns
returns c = one_meaning
