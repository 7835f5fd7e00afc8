-- What the places of units say of PROGRAM statements.
use Rattle.std.proofs.Common.{◌≡◌, ℕ, ◌+◌, Bool, true, false, List, [], ◌∷◌, drop, refl, ap, ◌∙◌, inl, inr, arith, zero, suc}
use Rattle.std.specs.Prelude.{Option, Some, bytes_eq, is_some, find, slice_get}
use Rattle.std.specs.List.{position_from}
use Rattle.std.proofs.lemmas.Bool.{cases_Bool}
use Rattle.application_types.specs.UnitText.{UnitText}
use Rattle.application_types.specs.Fitted.{unit_named}
use Rattle.application_check.specs.declared.unit_check.fault.FitFault.TheVariants.{NoUnit}
use Rattle.application_check.specs.Finding.{lacking}

has_place : {A : Type 0} (test : A → Bool) (i : ℕ) (all : List A) → is_some (position_from test i all) ≡ is_some (find test all)
has_place test i [] = refl
has_place test i (x ∷ all) =
    elim (cases_Bool (test x)) [
      | inl h ↦ rw h refl
      | inr h ↦ rw h (has_place test (i + 1) all)
    ]

-- a name has a place exactly where it has a unit
pub place_says : (units : List UnitText) (name : List ℕ) (place : Option ℕ) → place ≡ position_from (λ (v : UnitText). bytes_eq name v.name) 0 units → is_some place ≡ is_some (unit_named units name)
place_says units name place h = ap (λ (o : Option ℕ). is_some o) h ∙ has_place (λ (v : UnitText). bytes_eq name v.name) 0 units

-- ---- PROGRAM statements, one after another

suc_later : (i : ℕ) → suc i + 1 ≡ suc (i + 1)
suc_later i = omega arith

drop_at : {A : Type 0} (xs : List A) (i : ℕ) (x : A) → slice_get xs i ≡ Some x → drop i xs ≡ x ∷ drop (i + 1) xs
drop_at [] i x h = absurd cc
drop_at (y ∷ xs) zero x h = let e : y ≡ x = cc in rw e refl
drop_at (y ∷ xs) (suc i) x h = rw (suc_later i) (drop_at xs i x h)

pub lacks_here : (units : List UnitText) (programs : List (List ℕ × ℕ)) (i : ℕ) (p : List ℕ × ℕ) → slice_get programs i ≡ Some p → is_some (unit_named units p.0) ≡ false → lacking units (drop i programs) ≡ Some (NoUnit p.1)
lacks_here units programs i p at h = rw (drop_at programs i p at, h) refl

pub lacks_later : (units : List UnitText) (programs : List (List ℕ × ℕ)) (i : ℕ) (p : List ℕ × ℕ) → slice_get programs i ≡ Some p → is_some (unit_named units p.0) ≡ true → lacking units (drop i programs) ≡ lacking units (drop (i + 1) programs)
lacks_later units programs i p at h = rw (drop_at programs i p at, h) refl
