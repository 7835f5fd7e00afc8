use Rattle.kdcfile_layout.specs.ReadChainsLaws.{chains_are_read, read_chains_stand}
use Rattle.kdcfile_layout.proofs.kdcfile_read.laws.chains.Goals as goal

pub returns : goal.returns
returns c = record { written = chains_are_read; read = read_chains_stand }
