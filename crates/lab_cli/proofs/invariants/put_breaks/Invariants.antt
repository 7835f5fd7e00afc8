use Rattle.std.proofs.Common.{◌≡◌, ◌++◌, length}
use Rattle.lab_cli.specs.Invariants.{breaks_text}
use Rattle.lab_cli.proofs.invariants.put_breaks.Given as goal

abbrev pub invariant-loop-rest : goal.invariant-loop-rest
invariant-loop-rest l = l.out ++ breaks_text l.rest l.number l.outcome ≡ l.initial.out ++ breaks_text l.script l.number l.outcome

abbrev pub decreases-loop-rest : goal.decreases-loop-rest
decreases-loop-rest l = length l.rest
