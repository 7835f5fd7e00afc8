use Rattle.std.proofs.Common.{◌≡◌, length}
use Rattle.lab_walks.specs.Outcomes.{behind_blank}
use Rattle.lab_orders.proofs.lines.behind_blank.Given as goal

abbrev pub invariant-loop-byte : goal.invariant-loop-byte
invariant-loop-byte l = behind_blank l.rest ≡ behind_blank l.text

abbrev pub decreases-loop-byte : goal.decreases-loop-byte
decreases-loop-byte l = length l.rest
