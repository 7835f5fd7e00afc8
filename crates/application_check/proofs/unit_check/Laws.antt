-- The first fault of units, and what holds where there is none.
use Rattle.std.proofs.Common.{◌≡◌, ◌⊎◌, ℕ, ◌+◌, ◌<◌, ◌≤◌, refl, sym, ap, ◌∙◌, subst, inl, inr, arith, Bool, true, false, cond, nat_le, List, [], ◌∷◌, Option, Some, None, IsTrue}
use Rattle.std.specs.Prelude.{All, Any, IsSome, IfSome, is_some, bytes_eq, option_and_then}
use Rattle.std.specs.Map.{lookup, values_of}
use Rattle.std.specs.Option.{IsSomeAnd, option_or}
use Rattle.std.proofs.lemmas.Bool.{cases_Bool, leb-true, leb-false}
use Rattle.std.proofs.lemmas.List.Elements.{All-nil, All-cons, All-head, All-tail, All-weaker}
use Rattle.std.proofs.lemmas.Slice.Eq.{bytes_eq-Decides}
use Rattle.kd_base.specs.FirstFaultsLaws.{first_of_both, first_as, earlier_none}
use Rattle.application_types.specs.declared.kdcdef_types.entry.TacEntry.{TacEntry}
use Rattle.application_types.specs.declared.kdcdef_types.limits.Limits.{Limits}
use Rattle.application_types.specs.Generation.{Generated, entry_of}
use Rattle.application_types.specs.Soundness.{IsSound}
use Rattle.application_types.specs.declared.unit_types.action.UnitStatement.{UnitStatement}
use Rattle.application_types.specs.declared.unit_types.unit.Field.{Field}
use Rattle.application_types.specs.UnitText.{UnitText, jump_of, label_place, IsSpellable}
use Rattle.application_check.specs.declared.unit_check.fault.FitFault.{FitFault}
use Rattle.application_check.specs.declared.unit_check.fault.FitFault.TheVariants.{NoUnit, NoLabel, FieldPastArea, LiteralFollowUp, Memory}
use Rattle.application_types.specs.Fitted.{unit_named, area_len, IsInside, literal_follow_up, tac_in, IsFitted, AreFit}
use Rattle.application_check.specs.FitFaults.{line_of, number_of, FieldHas, LacksLabel, NamesNoTac, StatementHas, UnitHas, IsFirstInUnits, IsFirstWithout, HaveUnits, IsFirstFault}
use Rattle.application_check.specs.Finding.{field_fault, fields_fault, label_fault, follow_up_fault, statement_fault, statements_fault, unit_fault, units_fault, lacking, fit_fault}
use Rattle.application_check.proofs.unit_check.Order.{IsFirstOf, IsTold, told_first, not_told, first_of_all, none_of_all}

-- ---- one field

past_area : (past area : ℕ) (fault : FitFault) → IsTold (area < past) (past ≤ area) (cond (nat_le past area) None (Some fault)) fault
past_area past area fault =
    elim (cases_Bool (nat_le past area)) [
      | inl h ↦ inl (rw h refl, (λ lt. omega (arith, leb-true past area h, lt)), leb-true past area h)
      | inr h ↦ inr (rw h refl, leb-false past area h)
    ]

field_told : (limits : Limits) (f : Field) → IsTold (area_len limits f.spab < f.offset + f.length) (IsInside limits f) (field_fault limits f) (FieldPastArea f.line)
field_told limits f = past_area (f.offset + f.length) (area_len limits f.spab) (FieldPastArea f.line)

past_is : (limits : Limits) (f : Field) (e : FitFault) → FieldHas limits f e → (e ≡ FieldPastArea f.line) × (area_len limits f.spab < f.offset + f.length)
past_is limits f (FieldPastArea n) h = (ap FieldPastArea h.0, h.1)
past_is limits f _ h = absurd h

field_first : (limits : Limits) (f : Field) → IsFirstOf (FieldHas limits f) (field_fault limits f)
field_first limits f =
    first_as line_of number_of _ (FieldHas limits f) (λ e h. subst (FieldHas limits f) (sym h.0) (refl, h.1)) (past_is limits f) (field_fault limits f)
    (told_first _ (IsInside limits f) (field_fault limits f) (FieldPastArea f.line) (field_told limits f))

-- ---- one statement

abbrev LabelHas : UnitText → UnitStatement → FitFault → Type 0
LabelHas unit s e = (e ≡ NoLabel s.line) × LacksLabel unit s

abbrev FollowUpHas : List (List ℕ × TacEntry) → UnitStatement → FitFault → Type 0
FollowUpHas tacs s e = (e ≡ LiteralFollowUp s.line) × NamesNoTac tacs s

-- what is named is not there
abbrev Lacks : {A : Type 0} → Option (List ℕ) → (List ℕ → Option A) → Type 0
Lacks named found = IsSomeAnd named (λ name. found name ≡ None)

-- what is named, if anything is, is there
abbrev IsThere : {A : Type 0} → Option (List ℕ) → (List ℕ → Option A) → Type 0
IsThere named found = IfSome named (λ name. IsSome (found name))

-- the fault of what is named and not there
abbrev unless_there : {A : Type 0} → Option (List ℕ) → (List ℕ → Option A) → FitFault → Option FitFault
unless_there named found fault = option_and_then (λ (name : List ℕ). cond (is_some (found name)) None (Some fault)) named

there : {A : Type 0} (named : Option (List ℕ)) (found : List ℕ → Option A) (fault : FitFault) → IsTold (Lacks named found) (IsThere named found) (unless_there named found fault) fault
there {A} None found fault = inl (refl, (λ h. h), tt)
there {A} (Some name) found fault = go (found name) refl
  where
    go : (o : Option A) → found name ≡ o → IsTold (found name ≡ None) (IsSome (found name)) (cond (is_some (found name)) None (Some fault)) fault
    go None e = inr (rw e refl, e)
    go (Some x) e = inl (rw e refl, (λ h. absurd (let x : Some x ≡ None = sym e ∙ h in cc)), rw e refl)

label_told : (unit : UnitText) (s : UnitStatement) → IsTold (LacksLabel unit s) (IsThere (jump_of s.action) (label_place unit)) (label_fault unit s) (NoLabel s.line)
label_told unit s = there (jump_of s.action) (label_place unit) (NoLabel s.line)

tac_told : (tacs : List (List ℕ × TacEntry)) (s : UnitStatement) → IsTold (NamesNoTac tacs s) (IsThere (literal_follow_up s.action) (tac_in tacs)) (follow_up_fault tacs s) (LiteralFollowUp s.line)
tac_told tacs s = there (literal_follow_up s.action) (tac_in tacs) (LiteralFollowUp s.line)

statement_splits : (tacs : List (List ℕ × TacEntry)) (unit : UnitText) (s : UnitStatement) (e : FitFault) → StatementHas tacs unit s e → LabelHas unit s e ⊎ FollowUpHas tacs s e
statement_splits tacs unit s (NoLabel n) h = inl (ap NoLabel h.0, h.1)
statement_splits tacs unit s (LiteralFollowUp n) h = inr (ap LiteralFollowUp h.0, h.1)
statement_splits tacs unit s _ h = absurd h

statement_first : (tacs : List (List ℕ × TacEntry)) (unit : UnitText) (s : UnitStatement) → IsFirstOf (StatementHas tacs unit s) (statement_fault tacs unit s)
statement_first tacs unit s =
    let has = StatementHas tacs unit s in
    first_of_both line_of number_of (LabelHas unit s) (FollowUpHas tacs s) has (statement_splits tacs unit s) (λ e h. subst has (sym h.0) (refl, h.1)) (λ e h. subst has (sym h.0) (refl, h.1)) (label_fault unit s) (follow_up_fault tacs s)
    (told_first (LacksLabel unit s) _ (label_fault unit s) (NoLabel s.line) (label_told unit s))
    (told_first (NamesNoTac tacs s) _ (follow_up_fault tacs s) (LiteralFollowUp s.line) (tac_told tacs s))

-- ---- a unit, and all of them

unit_first : (g : Generated) (unit : UnitText) → IsFirstOf (UnitHas g unit) (unit_fault g unit)
unit_first g unit =
    first_of_both line_of number_of (λ e. Any (λ (f : Field). FieldHas g.limits f e) unit.fields) (λ e. Any (λ (s : UnitStatement). StatementHas g.tacs unit s e) unit.statements) (UnitHas g unit) (λ e h. h) (λ e h. inl h) (λ e h. inr h)
    (fields_fault g.limits unit.fields) (statements_fault g.tacs unit)
    (first_of_all (FieldHas g.limits) (field_fault g.limits) (field_first g.limits) unit.fields)
    (first_of_all (StatementHas g.tacs unit) (statement_fault g.tacs unit) (statement_first g.tacs unit) unit.statements)

units_first : (g : Generated) (units : List UnitText) → IsFirstOf (λ e. Any (λ (u : UnitText). UnitHas g u e) units) (units_fault g units)
units_first g units = first_of_all (UnitHas g) (unit_fault g) (unit_first g) units

-- ---- where no fault was found

unit_fits : (g : Generated) (unit : UnitText) → unit_fault g unit ≡ None → IsSpellable unit → IsFitted g.limits g.tacs unit
unit_fits g unit h whole =
    let both = earlier_none line_of number_of (fields_fault g.limits unit.fields) (statements_fault g.tacs unit) h in
    let statements = none_of_all (statement_fault g.tacs unit) unit.statements both.1 in
    let parts = λ (s : UnitStatement) (e : statement_fault g.tacs unit s ≡ None). earlier_none line_of number_of (label_fault unit s) (follow_up_fault g.tacs s) e in
    record {
      fields = All-weaker _ (IsInside g.limits) (λ f e. not_told _ _ (field_fault g.limits f) (FieldPastArea f.line) (field_told g.limits f) e) unit.fields (none_of_all (field_fault g.limits) unit.fields both.0);
      labels = All-weaker _ (λ (s : UnitStatement). IsThere (jump_of s.action) (label_place unit)) (λ s e. not_told _ _ (label_fault unit s) (NoLabel s.line) (label_told unit s) (parts s e).0) unit.statements statements;
      follow_ups = All-weaker _ (λ (s : UnitStatement). IsThere (literal_follow_up s.action) (tac_in g.tacs)) (λ s e. not_told _ _ (follow_up_fault g.tacs s) (LiteralFollowUp s.line) (tac_told g.tacs s) (parts s e).1) unit.statements statements;
      whole = whole;
    }

-- ---- PROGRAM statements

-- the first without a unit, or none
lacking_is : (units : List UnitText) (programs : List (List ℕ × ℕ)) → ((lacking units programs ≡ None) × HaveUnits units programs) ⊎ ((n : ℕ) × (lacking units programs ≡ Some (NoUnit n)) × IsFirstWithout units programs n)
lacking_is units [] = inl (refl, All-nil (λ (p : List ℕ × ℕ). IsSome (unit_named units p.0)))
lacking_is units (p ∷ programs) = go (unit_named units p.0) refl (lacking_is units programs)
  where
    go : (o : Option UnitText) → unit_named units p.0 ≡ o → ((lacking units programs ≡ None) × HaveUnits units programs) ⊎ ((n : ℕ) × (lacking units programs ≡ Some (NoUnit n)) × IsFirstWithout units programs n) → ((lacking units (p ∷ programs) ≡ None) × HaveUnits units (p ∷ programs)) ⊎ ((n : ℕ) × (lacking units (p ∷ programs) ≡ Some (NoUnit n)) × IsFirstWithout units (p ∷ programs) n)
    go None e rest = inr (p.1, rw e refl, inl (e, refl))
    go (Some u) e (inl none) = inl (rw e none.0, All-cons (λ (q : List ℕ × ℕ). IsSome (unit_named units q.0)) p programs (rw e refl) none.1)
    go (Some u) e (inr some) = inr (some.0, rw e some.1, inr (rw e refl, some.2))

-- the program of a TAC has its unit
named_has_unit : (units : List UnitText) (programs : List (List ℕ × ℕ)) → HaveUnits units programs → (name : List ℕ) → is_some (entry_of programs name) ≡ true → IsSome (unit_named units name)
named_has_unit units [] h name e = absurd cc
named_has_unit units (p ∷ programs) h name e =
    go (bytes_eq name p.0) refl e (λ i. named_has_unit units programs (All-tail (λ (q : List ℕ × ℕ). IsSome (unit_named units q.0)) p programs h) name i)
  where
    go : (b : Bool) → bytes_eq name p.0 ≡ b → is_some (cond b (Some p.1) (lookup (bytes_eq name) programs)) ≡ true → (is_some (lookup (bytes_eq name) programs) ≡ true → IsSome (unit_named units name)) → IsSome (unit_named units name)
    go true same i behind = rw ((bytes_eq-Decides name p.0).0 same) (All-head (λ (q : List ℕ × ℕ). IsSome (unit_named units q.0)) p programs h)
    go false other i behind = behind i

all_values : {K V : Type 0} (P : V → Type 0) (entries : List (K × V)) → All P (values_of entries) → All (λ (e : K × V). P e.1) entries
all_values {K} {V} P [] h = All-nil (λ (e : K × V). P e.1)
all_values {K} {V} P (e ∷ entries) h =
    All-cons (λ (x : K × V). P x.1) e entries (All-head P e.1 (values_of entries) h) (all_values P entries (All-tail P e.1 (values_of entries) h))

-- ---- the whole

-- units without a fault fit
pub record HasNoFault (g : Generated) (units : List UnitText) : Type 0 where
  pub programs : HaveUnits units g.programs
  pub fit : AreFit g.limits g.tacs units

none_or : (a b : Option FitFault) → option_or a b ≡ None → (a ≡ None) × (b ≡ None)
none_or None b h = (refl, h)
none_or (Some a) b h = absurd cc

no_unit_lacks : (units : List UnitText) (programs : List (List ℕ × ℕ)) → lacking units programs ≡ None → HaveUnits units programs
no_unit_lacks units programs h = elim (lacking_is units programs) [
  | inl is ↦ is.1
  | inr is ↦ absurd (let e : Some (NoUnit is.0) ≡ None = sym is.1 ∙ h in cc)
]

pub no_fault : (g : Generated) (units : List UnitText) → IsSound g → All IsSpellable units → fit_fault g units ≡ None → HasNoFault g units
no_fault g units sound whole h =
    let both = none_or (lacking units g.programs) (units_fault g units) h in
    let have = no_unit_lacks units g.programs both.0 in
    record {
      programs = have;
      fit = record {
        fitted = λ k u lt. unit_fits g _ (none_of_all (unit_fault g) units both.1 k u lt) (whole k u lt);
        named = All-weaker (λ (e : List ℕ × TacEntry). IsTrue (is_some (entry_of g.programs e.1.program))) (λ (e : List ℕ × TacEntry). IsSome (unit_named units e.1.program)) (λ e. named_has_unit units g.programs have e.1.program) g.tacs (all_values (λ (t : TacEntry). IsTrue (is_some (entry_of g.programs t.program))) g.tacs sound.programs);
      };
    }

-- the fault that was found among the units is none of the PROGRAM statements
first_in_units : (g : Generated) (units : List UnitText) (fault : FitFault) → HaveUnits units g.programs → IsFirstInUnits g units fault → IsFirstFault g units fault
first_in_units g units (NoUnit n) have f = let u = f.stands in elim u.4 [ inl a ↦ absurd a.4 | inr a ↦ absurd a.4 ]
first_in_units g units Memory have f = let u = f.stands in elim u.4 [ inl a ↦ absurd a.4 | inr a ↦ absurd a.4 ]
first_in_units g units fault have f = (have, f)

-- the fault that was found stands, and comes first
pub found_first : (g : Generated) (units : List UnitText) (fault : FitFault) → fit_fault g units ≡ Some fault → IsFirstFault g units fault
found_first g units fault h = elim (lacking_is units g.programs) [
  | inl is ↦ of_units is.1 (rw is.0 at h)
  | inr is ↦ let e : Some (NoUnit is.0) ≡ Some fault = rw is.1 at h in let same : NoUnit is.0 ≡ fault = cc in subst (IsFirstFault g units) same is.2
]
  where
    of_units : HaveUnits units g.programs → units_fault g units ≡ Some fault → IsFirstFault g units fault
    of_units have e =
        let f : IsFirstOf (λ (x : FitFault). Any (λ (u : UnitText). UnitHas g u x) units) (Some fault) = rw e at (units_first g units) in
        first_in_units g units fault have (record { stands = f.0; first = f.1 })

pub pair_same : {A B : Type 0} (p q : A × B) → q.0 ≡ p.0 → q.1 ≡ p.1 → q ≡ p
pair_same (a, b) (x, y) e f = rw (e, f) refl
