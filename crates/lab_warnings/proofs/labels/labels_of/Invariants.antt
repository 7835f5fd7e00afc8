use Rattle.std.proofs.Common.{length}
use Rattle.lab_warnings.proofs.labels.labels_of.Given as goal

abbrev pub decreases-loop-rest : goal.decreases-loop-rest
decreases-loop-rest l = length l.rest
