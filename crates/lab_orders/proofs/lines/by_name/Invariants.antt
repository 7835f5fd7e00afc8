use Rattle.std.proofs.Common.{◌≡◌, [], length}
use Rattle.std.specs.Str.Lines.{lines}
use Rattle.lab_walks.specs.Outcomes.{placed_all}
use Rattle.lab_orders.proofs.lines.by_name.Given as goal

abbrev pub invariant-loop-rest : goal.invariant-loop-rest
invariant-loop-rest l = placed_all l.sorted.items (lines l.rest) ≡ placed_all [] (lines l.text)

abbrev pub decreases-loop-rest : goal.decreases-loop-rest
decreases-loop-rest l = length l.rest
