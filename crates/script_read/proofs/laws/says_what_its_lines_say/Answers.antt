use Rattle.script_read.proofs.FirstFaults.{says_its_lines}
use Rattle.script_read.proofs.laws.says_what_its_lines_say.Goals as goal

pub returns : goal.returns
returns c = record { commands = says_its_lines }
