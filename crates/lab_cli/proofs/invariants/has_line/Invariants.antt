use Rattle.std.proofs.Common.{◌≡◌, length}
use Rattle.lab_cli.specs.Invariants.{has_line}
use Rattle.lab_cli.proofs.invariants.has_line.Given as goal

abbrev pub invariant-loop-wanted : goal.invariant-loop-wanted
invariant-loop-wanted l = has_line l.text l.wanted ≡ has_line l.rest l.wanted

abbrev pub decreases-loop-wanted : goal.decreases-loop-wanted
decreases-loop-wanted l = length l.rest
