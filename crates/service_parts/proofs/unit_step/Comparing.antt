-- Two texts, each filled with spaces to the longer's length, from a place on.
use Rattle.std.proofs.Common.{◌≡◌, ◌≢◌, inl, inr, false, nat_eq, nat_lt, add-one, ℕ, zero, suc, ◌+◌, ◌-◌, ◌<◌, max, List, [], ◌∷◌, ◌++◌, length, get_or, drop, replicate, refl, arith, sym, ◌∙◌, ap}
use Rattle.std.proofs.Common.{length-append}
use Rattle.std.proofs.Math.Seq.{drop-cons}
use Rattle.std.proofs.lemmas.List.{length-replicate}
use Rattle.std.proofs.lemmas.Bool.{cases_Bool}
use Rattle.std.proofs.lemmas.Bool.Decides.{nat_tests}
use Rattle.std.specs.declared.cmp.Ordering.{Ordering}
use Rattle.std.specs.declared.cmp.Ordering.TheVariants.{Equal}
use Rattle.std.specs.Ordering.{ordering_then, nat_cmp}
use Rattle.std.specs.Cmp.Lexicographic.{slice_cmp}
use Rattle.kd_base.specs.Text.{filled}

length_filled : (m : ℕ) (a : List ℕ) → length (filled m a) ≡ max (length a) m
length_filled m a = omega (arith, length-append a (replicate (m - length a) 32), length-replicate {A = ℕ} (m - length a) 32)

abbrev space : ℕ
space = 32

not_same : (x y : ℕ) → x ≢ y → nat_eq x y ≡ false
not_same x y differ = grind (arith, nat_tests)

spaces_get_or : (k i : ℕ) → get_or (replicate k space) i space ≡ space
spaces_get_or zero i = refl
spaces_get_or (suc k) zero = refl
spaces_get_or (suc k) (suc i) = spaces_get_or k i

filled_get_or : (a : List ℕ) (k i : ℕ) → get_or (a ++ replicate k 32) i 32 ≡ get_or a i 32
filled_get_or [] k i = spaces_get_or k i
filled_get_or (x ∷ a) k zero = refl
filled_get_or (x ∷ a) k (suc i) = filled_get_or a k i

same_is_equal : (x : ℕ) → nat_cmp x x ≡ Equal
same_is_equal x = grind (arith, nat_tests)

first_decides : (x y : ℕ) → x ≢ y → (rest : Ordering) → ordering_then (nat_cmp x y) rest ≡ nat_cmp x y
first_decides x y differ rest =
    elim (cases_Bool (nat_lt x y)) [
      | inl h ↦ rw h refl
      | inr h ↦ rw (h, not_same x y differ) refl
    ]

-- the comparison from a place on
abbrev pub from_place : List ℕ → List ℕ → ℕ → Type 0
from_place a b i =
    slice_cmp nat_cmp (filled (length b) a) (filled (length a) b) ≡ slice_cmp nat_cmp (drop i (filled (length b) a)) (drop i (filled (length a) b))

filled_from : (m : ℕ) (a : List ℕ) (i : ℕ) → i < max (length a) m → drop i (filled m a) ≡ get_or a i 32 ∷ drop (suc i) (filled m a)
filled_from m a i h =
    let in_range : i < length (filled m a) = omega (arith, length_filled m a) in
    drop-cons (filled m a) i 32 in_range ∙ ap (λ (x : ℕ). x ∷ drop (suc i) (filled m a)) (filled_get_or a (m - length a) i)

pub cmp_from : (a b : List ℕ) (i : ℕ) → i < max (length a) (length b) → slice_cmp nat_cmp (drop i (filled (length b) a)) (drop i (filled (length a) b)) ≡ ordering_then (nat_cmp (get_or a i 32) (get_or b i 32)) (slice_cmp nat_cmp (drop (suc i) (filled (length b) a)) (drop (suc i) (filled (length a) b)))
cmp_from a b i h =
    let k : i < max (length b) (length a) = omega arith in
    rw (filled_from (length b) a i h, filled_from (length a) b i k) refl

-- where the bytes at that place differ, they decide
pub decided : (a b : List ℕ) (i x y : ℕ) → from_place a b i → i < max (length a) (length b) → x ≡ get_or a i 32 → y ≡ get_or b i 32 → x ≢ y → nat_cmp x y ≡ slice_cmp nat_cmp (filled (length b) a) (filled (length a) b)
decided a b i x y so_far h x_is y_is differ =
    sym
    (so_far ∙ cmp_from a b i h ∙ rw (sym x_is, sym y_is) (first_decides x y differ (slice_cmp nat_cmp (drop (suc i) (filled (length b) a)) (drop (suc i) (filled (length a) b)))))

-- and else those after them
pub goes_on : (a b : List ℕ) (i x y : ℕ) → from_place a b i → i < max (length a) (length b) → x ≡ get_or a i 32 → y ≡ get_or b i 32 → x ≡ y → from_place a b (i + 1)
goes_on a b i x y so_far h x_is y_is same =
    let e : get_or a i 32 ≡ get_or b i 32 = sym x_is ∙ same ∙ y_is in
    so_far ∙ cmp_from a b i h ∙ rw (add-one, e, same_is_equal (get_or b i 32)) refl
