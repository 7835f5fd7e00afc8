-- The free places at the end, as one place changes.
use Rattle.std.specs.Prelude.{◌≡◌, refl, ◌<◌, ◌≤◌, ◌+◌, ◌-◌, ℕ, zero, suc, List, [], ◌∷◌, length, replicate, Option, None, Some, slice_get, slice_set}
use Rattle.std.proofs.Common.{ap, sym, subst, ◌∙◌, arith, length-set, ⊎_elim}
use Rattle.std.proofs.lemmas.Bool.{cases_eq}
use Rattle.abstract_monitor.specs.Picks.{Classed}
use Rattle.service_ends.specs.Counted.{AreFreeFrom}

set_here : (places : List (Option Classed)) (i : ℕ) (place : Option Classed) → i < length places → slice_get (slice_set places i place) i ≡ Some place
set_here [] i place lt = absurd (omega (arith, lt))
set_here (p ∷ places) zero place lt = refl
set_here (p ∷ places) (suc i) place lt = set_here places i place (omega (arith, lt))

set_elsewhere : (places : List (Option Classed)) (i j : ℕ) (place : Option Classed) → (j ≡ i → ⊥) → slice_get (slice_set places i place) j ≡ slice_get places j
set_elsewhere [] i j place apart = refl
set_elsewhere (p ∷ places) zero zero place apart = absurd (apart refl)
set_elsewhere (p ∷ places) zero (suc j) place apart = refl
set_elsewhere (p ∷ places) (suc i) zero place apart = refl
set_elsewhere (p ∷ places) (suc i) (suc j) place apart = set_elsewhere places i j place (λ e. apart (ap suc e))

pub all_free_from : (tasks : ℕ) → AreFreeFrom (replicate tasks None) 0
all_free_from zero place from lt = absurd (omega (arith, lt))
all_free_from (suc tasks) zero from lt = refl
all_free_from (suc tasks) (suc place) from lt = all_free_from tasks place (omega arith) (omega (arith, lt))

module _ (places : List (Option Classed)) (used : ℕ) (free : AreFreeFrom places used) where
  -- one place more
  pub one_lower : 0 < used → slice_get places (used - 1) ≡ Some None → AreFreeFrom places (used - 1)
  one_lower some last place from lt =
      ⊎_elim (λ (same : place ≡ used - 1). subst (λ n. slice_get places n ≡ Some None) (sym same) last) (λ apart. free place (omega (arith, some, from, apart)) lt) (cases_eq place (used - 1))

  module _ (i : ℕ) where
    pub free_cleared : AreFreeFrom (slice_set places i None) used
    free_cleared place from lt =
        let within : place < length places = omega (arith, lt, length-set places i None) in
        ⊎_elim (λ (same : place ≡ i). subst (λ n. slice_get (slice_set places n None) place ≡ Some None) same (set_here places place None within)) (λ apart. set_elsewhere places i place None apart ∙ free place from within) (cases_eq place i)

    pub free_filled : (now : ℕ) (entry : Option Classed) → used ≤ now → i < now → AreFreeFrom (slice_set places i entry) now
    free_filled now entry low high place from lt =
        set_elsewhere places i place entry (λ same. omega (arith, same, high, from)) ∙ free place (omega (arith, low, from)) (omega (arith, lt, length-set places i entry))
