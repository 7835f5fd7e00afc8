use Rattle.application_read.proofs.Gatherings.{AreBefore}
use Rattle.application_read.proofs.definition_text.gather.Given as goal

abbrev pub invariant-loop-gathered : goal.invariant-loop-gathered
invariant-loop-gathered l = AreBefore l.fn.reader.read l.reader l.gathered

abbrev pub decreases-loop-gathered : goal.decreases-loop-gathered
decreases-loop-gathered l = l.reader.count
