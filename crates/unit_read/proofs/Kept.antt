-- Sets that hold the names of a list, and of one more.
use Rattle.std.proofs.Common.{◌≡◌, ℕ, Bool, true, false, cond, List, [], ◌∷◌, ◌++◌, refl, sym, ap, ◌∙◌, subst, inl, inr}
use Rattle.std.specs.Prelude.{◌||◌, bytes_eq}
use Rattle.std.specs.BTreeSet.{BTreeSet}
use Rattle.std.specs.List.{list_any}
use Rattle.std.proofs.lemmas.Bool.{cases_Bool}
use Rattle.application_types.specs.declared.unit_types.unit.Field.{Field}
use Rattle.application_types.specs.UnitText.{UnitText}
use Rattle.unit_read.specs.Names.{holds, AreFieldNames, AreLabelNames, AreUnitNames}

or_false : (a : Bool) → (a || false) ≡ a
or_false true = refl
or_false false = refl

by_test : (a x y : Bool) → x ≡ cond a true y → x ≡ (y || a)
by_test true x true e = e
by_test true x false e = e
by_test false x y e = e ∙ sym (or_false y)

-- a set with one more name
pub holds_more : (old new : BTreeSet (List ℕ)) (name q : List ℕ) (a : Bool) → a ≡ bytes_eq name q → holds new q ≡ cond a true (holds old q) → holds new q ≡ (holds old q || bytes_eq name q)
holds_more old new name q a is e = by_test (bytes_eq name q) (holds new q) (holds old q) (e ∙ ap (λ (b : Bool). cond b true (holds old q)) is)

any_more : {A : Type 0} (test : A → Bool) (xs : List A) (x : A) → list_any test (xs ++ x ∷ []) ≡ (list_any test xs || test x)
any_more test [] x = or_false (test x)
any_more test (y ∷ ys) x =
    elim (cases_Bool (test y)) [
      | inl h ↦ rw h refl
      | inr h ↦ rw h (any_more test ys x)
    ]

abbrev pub OneMore : BTreeSet (List ℕ) → BTreeSet (List ℕ) → List ℕ → Type 0
OneMore old new name = (q : List ℕ) → holds new q ≡ (holds old q || bytes_eq name q)

pub field_kept : (old new : BTreeSet (List ℕ)) (fields more : List Field) (f : Field) → more ≡ fields ++ f ∷ [] → OneMore old new f.name → AreFieldNames old fields → AreFieldNames new more
field_kept old new fields more f is one kept =
    subst (AreFieldNames new) (sym is) (λ q. one q ∙ ap (λ b. b || bytes_eq f.name q) (kept q) ∙ sym (any_more (λ (g : Field). bytes_eq g.name q) fields f))

pub label_kept : (old new : BTreeSet (List ℕ)) (labels more : List (List ℕ × ℕ)) (l : List ℕ × ℕ) → more ≡ labels ++ l ∷ [] → OneMore old new l.0 → AreLabelNames old labels → AreLabelNames new more
label_kept old new labels more l is one kept =
    subst (AreLabelNames new) (sym is) (λ q. one q ∙ ap (λ b. b || bytes_eq l.0 q) (kept q) ∙ sym (any_more (λ (g : List ℕ × ℕ). bytes_eq g.0 q) labels l))

pub unit_kept : (old new : BTreeSet (List ℕ)) (units more : List UnitText) (u : UnitText) → more ≡ units ++ u ∷ [] → OneMore old new u.name → AreUnitNames old units → AreUnitNames new more
unit_kept old new units more u is one kept =
    subst (AreUnitNames new) (sym is) (λ q. one q ∙ ap (λ b. b || bytes_eq u.name q) (kept q) ∙ sym (any_more (λ (g : UnitText). bytes_eq g.name q) units u))
