use Rattle.std.proofs.Common.{◌≡◌, ◌++◌, length}
use Rattle.lab_scripts.specs.Parting.{indented}
use Rattle.lab_scripts.proofs.parting.put_indented.Given as goal

abbrev pub invariant-loop-rest : goal.invariant-loop-rest
invariant-loop-rest l = l.out ++ indented l.rest ≡ l.fn.out ++ indented l.text

abbrev pub decreases-loop-rest : goal.decreases-loop-rest
decreases-loop-rest l = length l.rest
