use Rattle.audit_trail.proofs.Faults.{says_what_its_lines_say, read_trails_are_trails}
use Rattle.audit_trail.proofs.laws.says_what_its_lines_say.Goals as goal

pub returns : goal.returns
returns c = record { lines = says_what_its_lines_say; trails = read_trails_are_trails }
