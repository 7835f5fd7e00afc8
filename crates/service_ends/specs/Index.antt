-- Numbers that keys have, and the least of them.
use Rattle.std.specs.Prelude.{◌≡◌, ◌<◌, ℕ, Bool, true, false, List, Option, None, Some, is_some}
use Rattle.std.specs.Ordering.{nat_cmp, ordering_then}
use Rattle.std.specs.declared.cmp.Ordering.{Ordering}
use Rattle.std.specs.FinMap.{find}

-- keys, each with a number that it has
abbrev pub Numbered : Type 0 → Type 0
Numbered K = List ((K × ℕ) × Unit {0})

-- by the key, then by the number
abbrev pub mark_cmp : {K : Type 0} → (K → K → Ordering) → K × ℕ → K × ℕ → Ordering
mark_cmp R a b = ordering_then (R a.0 b.0) (nat_cmp a.1 b.1)

-- the key has the number
abbrev pub is_marked : {K : Type 0} → (K → K → Ordering) → Numbered K → K → ℕ → Bool
is_marked R index key n = is_some (find (mark_cmp R) (key, n) index)

-- it is the least number that passes the test, if there is one
abbrev pub IsLeast : (ℕ → Bool) → Option ℕ → Type 0
IsLeast test None = (n : ℕ) → test n ≡ false
IsLeast test (Some n) = (test n ≡ true) × ((m : ℕ) → m < n → test m ≡ false)
