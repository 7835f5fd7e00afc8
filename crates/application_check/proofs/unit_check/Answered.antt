-- There is one answer at most: units that fit have no fault, and a fault that comes first is the only one.
use Rattle.std.proofs.Common.{◌≡◌, ◌≢◌, ◌⊎◌, ℕ, refl, sym, ◌∙◌, ap, inl, inr, arith, List, [], ◌∷◌, subst, Option, Some, None}
use Rattle.std.specs.Prelude.{Result, Ok, Err, IfOk, IfErr, All, Any, IsSome, IfSome}
use Rattle.std.specs.Option.{IsSomeAnd}
use Rattle.std.proofs.lemmas.List.Elements.{All-head, All-tail}
use Rattle.kd_base.specs.FirstFaultsLaws.{holds_unless}
use Rattle.kd_base.specs.ToolsLaws.{ok_of, err_of}
use Rattle.application_types.specs.declared.kdcdef_types.entry.TacEntry.{TacEntry}
use Rattle.application_types.specs.declared.kdcdef_types.limits.Limits.{Limits}
use Rattle.application_types.specs.Generation.{Generated}
use Rattle.application_types.specs.declared.unit_types.action.UnitStatement.{UnitStatement}
use Rattle.application_types.specs.declared.unit_types.unit.Field.{Field}
use Rattle.application_types.specs.UnitText.{UnitText, jump_of, label_place}
use Rattle.application_check.specs.declared.unit_check.fault.FitFault.{FitFault}
use Rattle.application_check.specs.declared.unit_check.fault.FitFault.TheVariants.{NoUnit, NoLabel, FieldPastArea, LiteralFollowUp, Memory}
use Rattle.application_types.specs.Fitted.{FittedUnits, unit_named, IsInside, literal_follow_up, tac_in, IsFitted, AreFittedTo}
use Rattle.application_check.specs.FitFaults.{FieldHas, StatementHas, UnitHas, IsFirstInUnits, IsFirstWithout, HaveUnits, IsFirstFault, is_memory, Gives}
use Rattle.application_check.proofs.unit_check.Order.{both_first}

-- what none of the items is, is not said of any
none_of : {A : Type 0} (P Q : A → Type 0) → ((x : A) → P x → Q x → ⊥) → (xs : List A) → All P xs → Any Q xs → ⊥
none_of P Q never xs all (k, x, lt, at, has) = never x (subst P at (all k x lt)) has

-- ---- what fits has no fault

inside_has_none : (limits : Limits) (f : Field) → IsInside limits f → (e : FitFault) → FieldHas limits f e → ⊥
inside_has_none limits f inside (FieldPastArea n) has = omega (arith, inside, has.1)
inside_has_none limits f inside _ has = has

some_or_none : {A : Type 0} (o : Option A) → IsSome o → o ≡ None → ⊥
some_or_none None some none = absurd cc
some_or_none (Some x) some none = absurd cc

-- what is named is there, or is not
not_both : {A : Type 0} (named : Option (List ℕ)) (found : List ℕ → Option A) → IfSome named (λ name. IsSome (found name)) → IsSomeAnd named (λ name. found name ≡ None) → ⊥
not_both None found there lacks = lacks
not_both (Some name) found there lacks = some_or_none (found name) there lacks

abbrev KnowsItsLabel : UnitText → UnitStatement → Type 0
KnowsItsLabel unit s = IfSome (jump_of s.action) (λ label. IsSome (label_place unit label))

abbrev NamesTac : List (List ℕ × TacEntry) → UnitStatement → Type 0
NamesTac tacs s = IfSome (literal_follow_up s.action) (λ bytes. IsSome (tac_in tacs bytes))

statement_has_none : (tacs : List (List ℕ × TacEntry)) (unit : UnitText) (s : UnitStatement) → KnowsItsLabel unit s → NamesTac tacs s → (e : FitFault) → StatementHas tacs unit s e → ⊥
statement_has_none tacs unit s label tac (NoLabel n) has = not_both (jump_of s.action) (label_place unit) label has.1
statement_has_none tacs unit s label tac (LiteralFollowUp n) has = not_both (literal_follow_up s.action) (tac_in tacs) tac has.1
statement_has_none tacs unit s label tac _ has = has

unit_has_none : (g : Generated) (e : FitFault) (unit : UnitText) → IsFitted g.limits g.tacs unit → UnitHas g unit e → ⊥
unit_has_none g e unit fit (inl has) =
    none_of (IsInside g.limits) (λ (f : Field). FieldHas g.limits f e) (λ f inside. inside_has_none g.limits f inside e) unit.fields fit.fields has
unit_has_none g e unit fit (inr (k, s, lt, at, has)) =
    statement_has_none g.tacs unit s (subst (KnowsItsLabel unit) at (fit.labels k s lt)) (subst (NamesTac g.tacs) at (fit.follow_ups k s lt)) e has

-- where each PROGRAM statement has its unit, none is the first without
none_without : (units : List UnitText) (programs : List (List ℕ × ℕ)) (n : ℕ) → HaveUnits units programs → IsFirstWithout units programs n → ⊥
none_without units [] n have without = without
none_without units (p ∷ programs) n have (inl here) =
    some_or_none (unit_named units p.0) (All-head (λ (q : List ℕ × ℕ). IsSome (unit_named units q.0)) p programs have) here.0
none_without units (p ∷ programs) n have (inr behind) =
    none_without units programs n (All-tail (λ (q : List ℕ × ℕ). IsSome (unit_named units q.0)) p programs have) behind.1

-- a first fault is a PROGRAM statement's, or one of the units
which : (g : Generated) (units : List UnitText) (e : FitFault) → IsFirstFault g units e → ((n : ℕ) × (e ≡ NoUnit n) × IsFirstWithout units g.programs n) ⊎ (HaveUnits units g.programs × IsFirstInUnits g units e)
which g units (NoUnit n) first = inl (n, refl, first)
which g units Memory first = absurd first
which g units e first = inr first

-- units that fit have no first fault
pub none_first : (g : Generated) (units : List UnitText) (fitted : FittedUnits) (e : FitFault) → AreFittedTo g units fitted → IsFirstFault g units e → ⊥
none_first g units fitted e fit first = elim (which g units e first) [
  | inl is ↦ none_without units g.programs is.0 fit.programs is.2
  | inr is ↦ none_of (IsFitted g.limits g.tacs) (λ (u : UnitText). UnitHas g u e) (unit_has_none g e) units fit.fit.fitted is.1.stands
]

-- ---- one at most

-- nothing but themselves fits
pub one_fitted : (g : Generated) (units : List UnitText) (x y : FittedUnits) → AreFittedTo g units x → AreFittedTo g units y → x ≡ y
one_fitted g units x y p q = λ j. record { units = (p.units ∙ sym q.units) j; limits = (p.limits ∙ sym q.limits) j; tacs = (p.tacs ∙ sym q.tacs) j }

one_without : (units : List UnitText) (programs : List (List ℕ × ℕ)) (n m : ℕ) → IsFirstWithout units programs n → IsFirstWithout units programs m → n ≡ m
one_without units [] n m p q = absurd p
one_without units (s ∷ programs) n m (inl p) (inl q) = p.1 ∙ sym q.1
one_without units (s ∷ programs) n m (inl p) (inr q) = absurd (some_or_none (unit_named units s.0) q.0 p.0)
one_without units (s ∷ programs) n m (inr p) (inl q) = absurd (some_or_none (unit_named units s.0) p.0 q.0)
one_without units (s ∷ programs) n m (inr p) (inr q) = one_without units programs n m p.1 q.1

-- the first fault is one
pub one_first : (g : Generated) (units : List UnitText) (d e : FitFault) → IsFirstFault g units d → IsFirstFault g units e → d ≡ e
one_first g units d e p q = by (which g units d p) (which g units e q)
  where
    by : ((n : ℕ) × (d ≡ NoUnit n) × IsFirstWithout units g.programs n) ⊎ (HaveUnits units g.programs × IsFirstInUnits g units d) → ((n : ℕ) × (e ≡ NoUnit n) × IsFirstWithout units g.programs n) ⊎ (HaveUnits units g.programs × IsFirstInUnits g units e) → d ≡ e
    by (inl x) (inl y) = x.1 ∙ ap NoUnit (one_without units g.programs x.0 y.0 x.2 y.2) ∙ sym y.1
    by (inl x) (inr y) = absurd (none_without units g.programs x.0 y.0 x.2)
    by (inr x) (inl y) = absurd (none_without units g.programs y.0 x.0 y.2)
    by (inr x) (inr y) = both_first d e (x.1.first e y.1.stands) (y.1.first d x.1.stands)

-- ---- the clauses that say what is answered

gives_fault : (e : FitFault) (wanted : Result FittedUnits FitFault) → (e ≢ Memory → wanted ≡ Err e) → Gives (Err e) wanted
gives_fault e wanted is = holds_unless (is_memory e) (wanted ≡ Err e) (λ no. is (λ m. absurd (cc (sym no ∙ ap is_memory m))))

module _ (g : Generated) (units : List UnitText) where
  abbrev Found : Result FittedUnits FitFault → Type 0
  Found r = IfOk r (λ (fitted : FittedUnits). AreFittedTo g units fitted)

  abbrev Fault : Result FittedUnits FitFault → Type 0
  Fault r = IfErr r (λ (e : FitFault). e ≢ Memory → IsFirstFault g units e)

  pub only_that : (r : Result FittedUnits FitFault) → Found r → Fault r → (fitted : FittedUnits) → AreFittedTo g units fitted → Gives r (Ok fitted)
  only_that (Ok x) found fault fitted fit = ap (λ (y : FittedUnits). ok_of {E = FitFault} y) (one_fitted g units fitted x fit found)
  only_that (Err e) found fault fitted fit = gives_fault e (Ok fitted) (λ is. absurd (none_first g units fitted e fit (fault is)))

  pub refused_for : (r : Result FittedUnits FitFault) → Found r → Fault r → (e : FitFault) → IsFirstFault g units e → Gives r (Err e)
  refused_for (Ok x) found fault e first = absurd (none_first g units x e found first)
  refused_for (Err d) found fault e first = gives_fault d (Err e) (λ is. ap (λ (x : FitFault). err_of {A = FittedUnits} x) (one_first g units e d first (fault is)))
