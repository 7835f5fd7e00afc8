use Rattle.std.proofs.Common.{◌≡◌, length}
use Rattle.lab_cli.specs.Invariants.{is_broken}
use Rattle.lab_cli.proofs.invariants.is_broken.Given as goal

abbrev pub invariant-loop-rest : goal.invariant-loop-rest
invariant-loop-rest l = is_broken l.script l.outcome ≡ is_broken l.rest l.outcome

abbrev pub decreases-loop-rest : goal.decreases-loop-rest
decreases-loop-rest l = length l.rest
