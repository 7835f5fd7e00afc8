-- Flags that are given to pages, and how many pages are free.
use Rattle.std.proofs.Common.{[], ◌≡◌, ⊎_elim, ℕ, zero, suc, ◌+◌, ◌<◌, Bool, true, false, not, cond, List, ◌∷◌, length, Some, refl, sym, subst, ◌∙◌, arith}
use Rattle.std.specs.Prelude.{set}
use Rattle.kdcfile_layout.specs.Places.{IsDistinct, At}
use Rattle.std.proofs.lemmas.Bool.{cases_eq}
use Rattle.std.proofs.lemmas.List.{length-set}
use Rattle.std.proofs.lemmas.List.Sums.{sum_by-set}
use Rattle.std.proofs.lemmas.Option.{same_Some, slice_get_within, get_or_from_slice_get}
use Rattle.kdcfile_layout.specs.PlacesLaws.{no_item, at_set_other, at_set_same, distinct_tail, distinct_head}
use Rattle.kdcfile_layout.specs.Pools.{free_count, flagged, ArePlanned}

pub length_flagged : (flag : Bool) (pages : List ℕ) (used : List Bool) → length (flagged flag used pages) ≡ length used
length_flagged flag [] used = refl
length_flagged flag (p ∷ pages) used = length_flagged flag pages (set used p flag) ∙ length-set used p flag

-- a page that is not among them keeps its flag
pub flag_kept : (flag : Bool) (pages : List ℕ) (used : List Bool) (p : ℕ) (u : Bool) → ((n : ℕ) → At pages n p → ⊥) → At used p u → At (flagged flag used pages) p u
flag_kept flag [] used p u apart at = at
flag_kept flag (q ∷ pages) used p u apart at = flag_kept flag pages (set used q flag) p u (λ n h. apart (suc n) h) (at_set_other used q p flag u (λ e. apart zero (some_same q p e)) at)
  where
    some_same : (a b : ℕ) → a ≡ b → Some a ≡ Some b
    some_same a b e = cc

-- a page that is used stays so while others are used
pub flag_stays : (pages : List ℕ) (used : List Bool) (p : ℕ) → At used p true → At (flagged true used pages) p true
flag_stays [] used p at = at
flag_stays (q ∷ pages) used p at = flag_stays pages (set used q true) p (⊎_elim (λ e. subst (λ (n : ℕ). At (set used q true) n true) e (at_set_same used q true (omega (arith, e, slice_get_within used p true at)))) (λ ne. at_set_other used q p true true ne at) (cases_eq q p))

-- pages that become used are used
pub flag_set : (pages : List ℕ) (used : List Bool) (n p : ℕ) → At pages n p → p < length used → At (flagged true used pages) p true
flag_set [] used n p at lt = absurd (no_item n p at)
flag_set (q ∷ pages) used zero p at lt =
    flag_stays pages (set used q true) p (subst (λ (m : ℕ). At (set used q true) m true) (same_Some q p at) (at_set_same used q true (omega (arith, lt, same_Some q p at))))
flag_set (q ∷ pages) used (suc n) p at lt = flag_set pages (set used q true) n p at (omega (arith, lt, length-set used q true))

pub count_set : (used : List Bool) (p : ℕ) (u v : Bool) → At used p u → free_count (set used p v) + cond (not u) 1 0 ≡ free_count used + cond (not v) 1 0
count_set used p u v at =
    let sum = sum_by-set (λ (w : Bool). cond (not w) 1 0) used p v true (slice_get_within used p u at) in
    subst (λ (w : Bool). free_count (set used p v) + cond (not w) 1 0 ≡ free_count used + cond (not v) 1 0) (get_or_from_slice_get used p u true at) sum

-- free pages that become used
pub count_used : (pages : List ℕ) (used : List Bool) → IsDistinct pages → ((n p : ℕ) → At pages n p → At used p false) → free_count (flagged true used pages) + length pages ≡ free_count used
count_used [] used distinct clear = omega arith
count_used (p ∷ pages) used distinct clear =
    omega (
      arith,
      count_set used p false true (clear zero p refl),
      count_used pages (set used p true) (distinct_tail p pages distinct)
          (λ n q h. at_set_other used p q true false (apart n q h) (clear (suc n) q h)),
    )
  where
    apart : (n q : ℕ) → At pages n q → p ≡ q → ⊥
    apart n q h e = distinct_head p pages distinct n (subst (λ (x : ℕ). At pages n x) (sym e) h)

-- used pages that become free
pub count_freed : (freed : List ℕ) (used : List Bool) → IsDistinct freed → ((n p : ℕ) → At freed n p → At used p true) → free_count (flagged false used freed) ≡ free_count used + length freed
count_freed [] used distinct taken = omega arith
count_freed (p ∷ freed) used distinct taken =
    omega (
      arith,
      count_set used p true false (taken zero p refl),
      count_freed freed (set used p false) (distinct_tail p freed distinct)
          (λ n q h. at_set_other used p q false true (apart n q h) (taken (suc n) q h)),
    )
  where
    apart : (n q : ℕ) → At freed n q → p ≡ q → ⊥
    apart n q h e = distinct_head p freed distinct n (subst (λ (x : ℕ). At freed n x) (sym e) h)

-- a plan is settled
pub count_settled : (used : List Bool) (pages freed : List ℕ) → ArePlanned used (length pages) pages → IsDistinct freed → ((n p : ℕ) → At freed n p → At used p true) → free_count (flagged false (flagged true used pages) freed) + length pages ≡ free_count used + length freed
count_settled used pages freed planned distinct taken =
    omega (
      arith,
      count_used pages used planned.distinct planned.clear,
      count_freed freed (flagged true used pages) distinct (λ n p h. flag_stays pages used p (taken n p h)),
    )
