use Rattle.audit_trail.proofs.Faults.{faults_are_first, long_texts, no_other_faults}
use Rattle.audit_trail.proofs.laws.faults_are_first.Goals as goal

pub returns : goal.returns
returns c = record { lines = faults_are_first; long = long_texts; others = no_other_faults }
