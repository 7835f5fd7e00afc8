use Rattle.std.specs.Prelude.{◌≡◌, IsTrue, length}
use Rattle.std.specs.FinMap.{is_sorted}
use Rattle.kd_base.specs.Places.{from_key}
use Rattle.kd_base.proofs.sorted_pairs.pairs.SortedPairs.from.Given as goal

-- only pairs before the key are passed over
abbrev pub invariant-loop-first : goal.invariant-loop-first
invariant-loop-first g l = (from_key g.K.Ord.cmp l.key l.rest ≡ from_key g.K.Ord.cmp l.key l.self) × IsTrue (is_sorted g.K.Ord.cmp l.rest)

abbrev pub decreases-loop-first : goal.decreases-loop-first
decreases-loop-first g l = length l.rest
