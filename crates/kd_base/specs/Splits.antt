-- Pairs in ascending order of their keys, of which a few in front stand apart.
use Rattle.std.specs.Prelude.{◌≤◌, IsTrue, List, ◌++◌, length}
use Rattle.std.specs.declared.cmp.Ordering.{Ordering}
use Rattle.std.specs.FinMap.{is_sorted}

pub record IsSplit {K X : Type 0} (R : K → K → Ordering) (few many : List (K × X)) : Type 0 where
  pub ascending : IsTrue (is_sorted R (few ++ many))
  pub small : length few ≤ 8
