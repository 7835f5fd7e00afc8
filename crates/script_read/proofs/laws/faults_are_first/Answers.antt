use Rattle.script_read.proofs.FirstFaults.{faults_first}
use Rattle.script_read.proofs.laws.faults_are_first.Goals as goal

pub returns : goal.returns
returns c = record { commands = faults_first }
