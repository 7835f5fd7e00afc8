-- The last digits of a number.
use Rattle.std.proofs.Common.{◌≡◌, ℕ, zero, suc, ◌+◌, ◌-◌, ◌/◌, ◌%◌, ◌^◌, ◌<◌, ◌≤◌, List, [], ◌∷◌, ◌++◌, length, drop, refl, arith, sym, ◌∙◌, ap, append_assoc, add-one}
use Rattle.std.proofs.lemmas.List.{drop-set}
use Rattle.std.proofs.Math.ListN.{set}
use Rattle.std.proofs.Math.Nat.{div-div-eq-div-mul, pow-suc}
use Rattle.abstract_monitor.specs.Contents.{in_digits}

pub one_digit_more : (k n : ℕ) (rest : List ℕ) → in_digits (suc k) n ++ rest ≡ in_digits k (n / 10) ++ (48 + n % 10) ∷ rest
unfolding in_digits
one_digit_more k n rest = append_assoc (in_digits k (n / 10)) ((48 + n % 10) ∷ []) rest

pub div_pow_suc : (n j : ℕ) → n / 10 ^ j / 10 ≡ n / 10 ^ suc j
div_pow_suc n j = div-div-eq-div-mul n (10 ^ j) 10 ∙ ap (λ (x : ℕ). n / x) (sym (pow-suc 10 j))

-- one more digit is written
pub written_more : (into written : List ℕ) (k left : ℕ) → k < length into → in_digits (suc k) left ++ drop (suc k) into ≡ written → in_digits k (left / 10) ++ drop k (set into k (48 + left % 10)) ≡ written
written_more into written k left h so_far =
    ap (λ (x : List ℕ). in_digits k (left / 10) ++ x) (drop-set into k (48 + left % 10) h ∙ rw add-one refl) ∙ sym (one_digit_more k left (drop (suc k) into)) ∙ so_far

-- the same, counted down
pub written_down : (into written : List ℕ) (place left : ℕ) → 0 < place → place ≤ length into → in_digits place left ++ drop place into ≡ written → in_digits (place - 1) (left / 10) ++ drop (place - 1) (set into (place - 1) (48 + left % 10)) ≡ written
written_down into written zero left some h so_far = absurd (omega arith)
written_down into written (suc k) left some h so_far =
    let e : suc k - 1 ≡ k = omega arith in
    let lt : k < length into = omega arith in
    rw e (written_more into written k left lt so_far)

pub left_down : (n len place left : ℕ) → 0 < place → place ≤ len → left ≡ n / 10 ^ (len - place) → left / 10 ≡ n / 10 ^ (len - (place - 1))
left_down n len place left some h is =
    let e : len - (place - 1) ≡ suc (len - place) = omega arith in
    rw (e, is) (div_pow_suc n (len - place))

-- all are written
pub all_written : (into written : List ℕ) (place left : ℕ) → place ≤ 0 → in_digits place left ++ drop place into ≡ written → into ≡ written
unfolding in_digits
all_written into written zero left h so_far = so_far
all_written into written (suc k) left h so_far = absurd (omega arith)
