-- Statuses among statuses.
use Rattle.std.proofs.Common.{◌≡◌, ℕ, [], ◌∷◌, arith}
use Rattle.std.proofs.lemmas.Bool.Decides.{nat_tests}
use Rattle.refusals.specs.Statuses.{IsOneOf}

pub of_run : (n : ℕ) → IsOneOf (0 ∷ 4 ∷ 5 ∷ 7 ∷ 8 ∷ []) n → IsOneOf (0 ∷ 1 ∷ 2 ∷ 3 ∷ 4 ∷ 5 ∷ 6 ∷ 7 ∷ 8 ∷ []) n
of_run n h = grind (arith, nat_tests)

pub of_done : (n : ℕ) → IsOneOf (0 ∷ 5 ∷ 7 ∷ []) n → IsOneOf (0 ∷ 6 ∷ 5 ∷ 7 ∷ []) n
of_done n h = grind (arith, nat_tests)

pub not_device : (n : ℕ) → IsOneOf (0 ∷ 5 ∷ 7 ∷ []) n → (n ≡ 5 → ⊥) → IsOneOf (0 ∷ 7 ∷ []) n
not_device n h not_five = grind (arith, nat_tests)

-- texts or a file that are refused
pub of_refused : (k n : ℕ) → IsOneOf (k ∷ 5 ∷ 7 ∷ []) n → IsOneOf (k ∷ 6 ∷ 5 ∷ 7 ∷ []) n
of_refused k n h = grind (arith, nat_tests)

pub not_refused : (n : ℕ) → IsOneOf (0 ∷ 4 ∷ 5 ∷ 7 ∷ 8 ∷ []) n → IsOneOf (2 ∷ 3 ∷ []) n → ⊥
not_refused n h k = grind (arith, nat_tests)

-- no file is refused, and no trail
pub none_refused : (n : ℕ) → IsOneOf (0 ∷ 4 ∷ 5 ∷ 7 ∷ 8 ∷ []) n → (IsOneOf (4 ∷ 8 ∷ []) n → ⊥) → IsOneOf (0 ∷ 5 ∷ 7 ∷ []) n
none_refused n h none = grind (arith, nat_tests)

pub with_room : (n : ℕ) → IsOneOf (0 ∷ 5 ∷ 7 ∷ []) n → IsOneOf (0 ∷ 5 ∷ 6 ∷ 7 ∷ []) n
with_room n h = grind (arith, nat_tests)
