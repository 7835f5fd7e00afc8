use Rattle.audit_trail.proofs.Examples.{trail_rows, line_rows, kept_rows}
use Rattle.audit_trail.proofs.laws.worked_rows.Goals as goal

pub returns-clause-trails : goal.returns-clause-trails
returns-clause-trails c = trail_rows

pub returns-clause-lines : goal.returns-clause-lines
returns-clause-lines c = line_rows

pub returns-clause-kept : goal.returns-clause-kept
returns-clause-kept c = kept_rows
