use Rattle.std.specs.Str.Lines.{lines}
use Rattle.audit_trail.proofs.Faults.{what_is_read}
use Rattle.audit_trail.proofs.reading.read_trail.Goals as goal

pub returns-clause-proper : goal.returns-clause-proper
returns-clause-proper c = what_is_read (lines c.args.text.now) c.trail_of.result c.trail_of.ensures
