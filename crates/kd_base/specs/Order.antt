-- Names and bytes compare as their lists of bytes do, and the comparisons tell all of them apart.
use Rattle.std.specs.Prelude.{ℕ, List, nat_eq, ◌≡◌}
use Rattle.std.specs.Bool.{Decides}
use Rattle.std.specs.Cmp.{IsTotalOrder}
use Rattle.std.specs.Cmp.Lexicographic.{pointwise, slice_cmp}
use Rattle.std.specs.Ordering.{nat_cmp}
use Rattle.std.proofs.lemmas.Map.Lookups.{CmpEqualImpliesEq}

-- `==` holds exactly of the same bytes
abbrev pub EqualIsSame : Type 0
EqualIsSame = (a b : List ℕ) → Decides (pointwise nat_eq a b) (a ≡ b)

-- what is at one place of the order is the same bytes
abbrev pub TiedIsSame : Type 0
TiedIsSame = CmpEqualImpliesEq (slice_cmp nat_cmp)

-- the order is total
abbrev pub OrderIsTotal : Type 0
OrderIsTotal = IsTotalOrder (slice_cmp nat_cmp)
