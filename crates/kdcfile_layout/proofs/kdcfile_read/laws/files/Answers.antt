use Rattle.kdcfile_layout.specs.ReadsLaws.{files_are_read}
use Rattle.kdcfile_layout.specs.ReadFilesLaws.{read_files_stand}
use Rattle.kdcfile_layout.proofs.kdcfile_read.laws.files.Goals as goal

pub returns : goal.returns
returns c = record { written = files_are_read; read = read_files_stand }
