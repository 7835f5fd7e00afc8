-- Statuses among statuses.
use Rattle.std.proofs.Common.{◌≡◌, ℕ, [], ◌∷◌, arith}
use Rattle.std.proofs.lemmas.Bool.Decides.{nat_tests}
use Rattle.refusals.specs.Statuses.{IsOneOf}

pub all_codes : (n : ℕ) → IsOneOf (0 ∷ 1 ∷ []) n → IsOneOf (0 ∷ 1 ∷ 2 ∷ 3 ∷ 4 ∷ 5 ∷ 6 ∷ 7 ∷ []) n
all_codes n h = grind (arith, nat_tests)

pub done_not_refused : (n : ℕ) → IsOneOf (0 ∷ 1 ∷ []) n → IsOneOf (2 ∷ 3 ∷ 4 ∷ []) n → ⊥
done_not_refused n h k = grind (arith, nat_tests)

pub done_not_unread : (n : ℕ) → IsOneOf (0 ∷ 1 ∷ []) n → n ≡ 6 → ⊥
done_not_unread n h k = grind (arith, nat_tests)

-- of a refusal with the status k
pub refusal_codes : (k n : ℕ) → IsOneOf (2 ∷ 3 ∷ 4 ∷ []) k → IsOneOf (k ∷ 5 ∷ 7 ∷ []) n → IsOneOf (0 ∷ 1 ∷ 2 ∷ 3 ∷ 4 ∷ 5 ∷ 6 ∷ 7 ∷ []) n
refusal_codes k n own h = grind (arith, nat_tests)

pub refusal_not_done : (k n : ℕ) → IsOneOf (2 ∷ 3 ∷ 4 ∷ []) k → IsOneOf (k ∷ 5 ∷ 7 ∷ []) n → IsOneOf (0 ∷ 1 ∷ []) n → ⊥
refusal_not_done k n own h done = grind (arith, nat_tests)

pub refusal_said : (k n : ℕ) → IsOneOf (k ∷ 5 ∷ 7 ∷ []) n → IsOneOf (2 ∷ 3 ∷ 4 ∷ []) n → n ≡ k
refusal_said k n h is = grind (arith, nat_tests)

pub refusal_not_unread : (k n : ℕ) → IsOneOf (2 ∷ 3 ∷ 4 ∷ []) k → IsOneOf (k ∷ 5 ∷ 7 ∷ []) n → n ≡ 6 → ⊥
refusal_not_unread k n own h is = grind (arith, nat_tests)

-- a line was printed with the status c, or the output failed
pub said_codes : (k c n : ℕ) → IsOneOf (k ∷ 5 ∷ 7 ∷ []) c → IsOneOf (c ∷ 5 ∷ []) n → IsOneOf (k ∷ 5 ∷ 7 ∷ []) n
said_codes k c n h is = grind (arith, nat_tests)

pub said_same : (k c n : ℕ) → IsOneOf (2 ∷ 3 ∷ 4 ∷ 8 ∷ []) k → IsOneOf (k ∷ 5 ∷ 7 ∷ []) c → IsOneOf (c ∷ 5 ∷ []) n → n ≡ k → c ≡ k
said_same k c n own h is same = grind (arith, nat_tests)

pub said_not_failed : (k n : ℕ) → IsOneOf (2 ∷ 3 ∷ 4 ∷ 8 ∷ []) k → n ≡ k → n ≡ 5 → ⊥
said_not_failed k n own same five = grind (arith, nat_tests)

pub checked_codes : (n : ℕ) → IsOneOf (0 ∷ 2 ∷ 3 ∷ []) n → IsOneOf (0 ∷ 2 ∷ 3 ∷ 5 ∷ 6 ∷ 7 ∷ []) n
checked_codes n h = grind (arith, nat_tests)

pub checked_not_unread : (n : ℕ) → IsOneOf (0 ∷ 2 ∷ 3 ∷ []) n → n ≡ 6 → ⊥
checked_not_unread n h k = grind (arith, nat_tests)

-- the output failed, or memory ran out
pub broken_codes : (n : ℕ) → IsOneOf (5 ∷ 7 ∷ []) n → IsOneOf (0 ∷ 1 ∷ 2 ∷ 3 ∷ 4 ∷ 5 ∷ 6 ∷ 7 ∷ []) n
broken_codes n h = grind (arith, nat_tests)

pub broken_not_done : (n : ℕ) → IsOneOf (5 ∷ 7 ∷ []) n → IsOneOf (0 ∷ 1 ∷ []) n → ⊥
broken_not_done n h k = grind (arith, nat_tests)

pub broken_not_refused : (n : ℕ) → IsOneOf (5 ∷ 7 ∷ []) n → IsOneOf (2 ∷ 3 ∷ 4 ∷ []) n → ⊥
broken_not_refused n h k = grind (arith, nat_tests)

pub broken_not_unread : (n : ℕ) → IsOneOf (5 ∷ 7 ∷ []) n → n ≡ 6 → ⊥
broken_not_unread n h k = grind (arith, nat_tests)

-- these are others
pub six_not_done : IsOneOf (0 ∷ 1 ∷ []) 6 → ⊥
six_not_done h = absurd cc

pub six_not_refused : IsOneOf (2 ∷ 3 ∷ 4 ∷ []) 6 → ⊥
six_not_refused h = absurd cc

pub six_not_checked : IsOneOf (0 ∷ 2 ∷ 3 ∷ []) 6 → ⊥
six_not_checked h = absurd cc

pub five_not_checked : IsOneOf (0 ∷ 2 ∷ 3 ∷ []) 5 → ⊥
five_not_checked h = absurd cc

pub seven_not_checked : IsOneOf (0 ∷ 2 ∷ 3 ∷ []) 7 → ⊥
seven_not_checked h = absurd cc

pub own_code : (n : ℕ) → IsOneOf (n ∷ 5 ∷ []) n
own_code n = grind (arith, nat_tests)

pub failed_code : (n : ℕ) → IsOneOf (n ∷ 5 ∷ []) 5
failed_code n = grind (arith, nat_tests)

pub memory_code : (n : ℕ) → IsOneOf (n ∷ 5 ∷ 7 ∷ []) 7
memory_code n = grind (arith, nat_tests)

pub not_memory : (k : ℕ) → IsOneOf (2 ∷ 3 ∷ 4 ∷ 8 ∷ []) k → 7 ≡ k → ⊥
not_memory k own is = grind (arith, nat_tests)

pub one_not_five : (n : ℕ) → n ≡ 1 → n ≡ 5 → ⊥
one_not_five n one five = omega (arith, one, five)
