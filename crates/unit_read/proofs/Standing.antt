-- Pieces after pieces: what is read so far is above.
use Rattle.std.proofs.Common.{◌≡◌, ℕ, ◌+◌, ◌<◌, ◌≤◌, Bool, true, false, cond, eqb, List, [], ◌∷◌, ◌++◌, length, Option, Some, None, Ok, Err, refl, sym, ap, ◌∙◌, subst, inl, inr, arith, append_assoc}
use Rattle.std.proofs.Common.{length-append}
use Rattle.std.specs.Prelude.{nat_le}
use Rattle.std.specs.List.{list_all}
use Rattle.std.proofs.lemmas.Bool.{cases_Bool, eqb-true, leb-false}
use Rattle.std.proofs.lemmas.List.{append-nil, nil_from_length}
use Rattle.kd_base.specs.ToolsLaws.{chosen, both_true, ok_is, ok_of, bind_ok}
use Rattle.application_types.specs.declared.unit_types.action.Action.{Action}
use Rattle.application_types.specs.declared.unit_types.action.UnitStatement.{UnitStatement}
use Rattle.application_types.specs.declared.unit_types.unit.Field.{Field}
use Rattle.application_types.specs.UnitText.{UnitText}
use Rattle.unit_read.specs.declared.fault.UnitFault.{UnitFault}
use Rattle.unit_read.specs.declared.fault.UnitFault.TheVariants.{BadStatement, BadField, LabelTwice, UnitTwice, TooLong}
use Rattle.unit_read.specs.declared.piece.Piece.{Piece}
use Rattle.unit_read.specs.declared.piece.Piece.TheVariants as pieces
use Rattle.unit_read.specs.Names.{has_field, has_label, has_unit}
use Rattle.unit_read.specs.Used.{uses}
use Rattle.unit_read.specs.Units.{begun, add_field, add_label, add_statement, with_field, with_label, with_statement, State, in_unit, by_current}
use Rattle.unit_read.specs.Spelling.{Placed, placed, has_no_body, is_field, is_inner, are_inner, field_in, label_in, statement_in, fields_in, statements_in, labels_in, FieldsAreNew, LabelsAreNew}
use Rattle.unit_read.specs.Spelling.{are_defined, IsBegun, MayComeAfter, AreUnits}
use Rattle.unit_read.specs.Faults.{Stand}

-- ---- lists with one more at the end

pub all_more : {A : Type 0} (test : A → Bool) (xs : List A) (x : A) → list_all test xs ≡ true → test x ≡ true → list_all test (xs ++ x ∷ []) ≡ true
all_more test [] x h k = rw k refl
all_more test (y ∷ ys) x h k =
    let a = both_true (test y) (list_all test ys) h in
    rw a.0 (all_more test ys x a.1 k)

pub fields_append : (xs ys : List Placed) → fields_in (xs ++ ys) ≡ fields_in xs ++ fields_in ys
fields_append [] ys = refl
fields_append (p ∷ xs) ys =
    ap (λ (fs : List Field). field_in p.line p.piece ++ fs) (fields_append xs ys) ∙ sym (append_assoc (field_in p.line p.piece) (fields_in xs) (fields_in ys))

pub statements_append : (xs ys : List Placed) → statements_in (xs ++ ys) ≡ statements_in xs ++ statements_in ys
statements_append [] ys = refl
statements_append (p ∷ xs) ys =
    ap (λ (ss : List UnitStatement). statement_in p.line p.piece ++ ss) (statements_append xs ys) ∙ sym (append_assoc (statement_in p.line p.piece) (statements_in xs) (statements_in ys))

pub labels_append : (k : ℕ) (xs ys : List Placed) (m : ℕ) → m ≡ k + length (statements_in xs) → labels_in k (xs ++ ys) ≡ labels_in k xs ++ labels_in m ys
labels_append k [] ys m e = let is : k ≡ m = omega arith in ap (λ (n : ℕ). labels_in n ys) is
labels_append k (p ∷ xs) ys m e =
    let next = k + length (statement_in p.line p.piece) in
    let long : m ≡ next + length (statements_in xs) = omega (arith, length-append (statement_in p.line p.piece) (statements_in xs)) in
    ap (λ (ls : List (List ℕ × ℕ)). label_in k p.piece ++ ls) (labels_append next xs ys m long) ∙ sym (append_assoc (label_in k p.piece) (labels_in next xs) (labels_in m ys))

pub fields_new_more : (before fs : List Field) (f : Field) → FieldsAreNew before fs → has_field (before ++ fs) f.name ≡ false → FieldsAreNew before (fs ++ f ∷ [])
fields_new_more before [] f h k = (ap (λ (xs : List Field). has_field xs f.name) (sym (append-nil before)) ∙ k, tt)
fields_new_more before (g ∷ fs) f h k =
    (h.0, fields_new_more (before ++ g ∷ []) fs f h.1 (ap (λ (xs : List Field). has_field xs f.name) (append_assoc before (g ∷ []) fs) ∙ k))

pub labels_new_more : (before ls : List (List ℕ × ℕ)) (l : List ℕ × ℕ) → LabelsAreNew before ls → has_label (before ++ ls) l.0 ≡ false → LabelsAreNew before (ls ++ l ∷ [])
labels_new_more before [] l h k = (ap (λ (xs : List (List ℕ × ℕ)). has_label xs l.0) (sym (append-nil before)) ∙ k, tt)
labels_new_more before (g ∷ ls) l h k =
    (h.0, labels_new_more (before ++ g ∷ []) ls l h.1 (ap (λ (xs : List (List ℕ × ℕ)). has_label xs l.0) (append_assoc before (g ∷ []) ls) ∙ k))

-- ---- a unit that has neither label nor statement

no_body_is : (u : UnitText) → has_no_body u ≡ true → (u.labels ≡ []) × (u.statements ≡ [])
no_body_is u h =
    let a = both_true (eqb (length u.labels) 0) (eqb (length u.statements) 0) h in
    (nil_from_length u.labels (eqb-true (length u.labels) 0 a.0), nil_from_length u.statements (eqb-true (length u.statements) 0 a.1))

inner_first : (k n : ℕ) (piece : Piece) (ps : List Placed) → is_inner piece ≡ true → label_in k piece ++ labels_in (k + length (statement_in n piece)) ps ≡ [] → statement_in n piece ++ statements_in ps ≡ [] → ⊥
inner_first k n (pieces.Unit name) ps h l s = cc
inner_first k n _ ps h l s = cc

inner_empty : (k : ℕ) (ps : List Placed) → are_inner ps ≡ true → labels_in k ps ≡ [] → statements_in ps ≡ [] → ps ≡ []
inner_empty k [] h l s = refl
inner_empty k (p ∷ ps) h l s = absurd (inner_first k p.line p.piece ps (both_true (is_inner p.piece) (are_inner ps) h).0 l s)

-- ---- an open unit with one more piece

field_more : (u : UnitText) (n : ℕ) (name : List ℕ) (spab : Bool) (offset len : ℕ) (own : List Placed) → IsBegun u own → has_no_body u ≡ true → has_field u.fields name ≡ false
    → IsBegun (add_field (record { name = name; line = n; spab = spab; offset = offset; length = len }) u) (own ++ placed n (pieces.Field name spab offset len) ∷ [])
field_more u n name spab offset len own b none new =
    let p = placed n (pieces.Field name spab offset len) in
    let f : Field = record { name = name; line = n; spab = spab; offset = offset; length = len } in
    let empty = no_body_is u none in
    let no_body : b.body ≡ [] = inner_empty 1 b.body b.body_is (sym b.labels ∙ empty.0) (sym b.statements ∙ empty.1) in
    let unit = placed u.line (pieces.Unit u.name) in
    record {
      heads = b.heads ++ p ∷ [];
      body = [];
      parts = ap (λ (x : List Placed). x ++ p ∷ []) (b.parts ∙ ap (λ (x : List Placed). unit ∷ (b.heads ++ x)) no_body ∙ ap (λ (x : List Placed). unit ∷ x) (append-nil b.heads)) ∙ ap (λ (x : List Placed). unit ∷ x) (sym (append-nil (b.heads ++ p ∷ [])));
      heads_are = all_more (λ (q : Placed). is_field q.piece) b.heads p b.heads_are refl;
      body_is = refl;
      fields = ap (λ (x : List Field). x ++ f ∷ []) b.fields ∙ sym (fields_append b.heads (p ∷ []));
      labels = empty.0;
      statements = empty.1;
      new_fields = fields_new_more [] u.fields f b.new_fields new;
      new_labels = b.new_labels;
      defined = ap (are_defined (u.fields ++ f ∷ [])) empty.1;
      few = b.few;
    }

own_more : (u : UnitText) (own : List Placed) (b : IsBegun u own) (p : Placed) → own ++ p ∷ [] ≡ placed u.line (pieces.Unit u.name) ∷ (b.heads ++ (b.body ++ p ∷ []))
own_more u own b p =
    ap (λ (x : List Placed). x ++ p ∷ []) b.parts ∙ ap (λ (x : List Placed). placed u.line (pieces.Unit u.name) ∷ x) (append_assoc b.heads b.body (p ∷ []))

inner_more : (u : UnitText) (labels : List (List ℕ × ℕ)) (statements : List UnitStatement) (own : List Placed) (p : Placed) (b : IsBegun u own) → is_inner p.piece ≡ true
    → labels ≡ labels_in 1 (b.body ++ p ∷ []) → statements ≡ statements_in (b.body ++ p ∷ []) → LabelsAreNew [] labels → are_defined u.fields statements ≡ true → length statements ≤ 10000
    → IsBegun (record { name = u.name; line = u.line; fields = u.fields; labels = labels; statements = statements }) (own ++ p ∷ [])
inner_more u labels statements own p b is labels_are statements_are new defined few = record {
  heads = b.heads;
  body = b.body ++ p ∷ [];
  parts = own_more u own b p;
  heads_are = b.heads_are;
  body_is = all_more (λ (q : Placed). is_inner q.piece) b.body p b.body_is is;
  fields = b.fields;
  labels = labels_are;
  statements = statements_are;
  new_fields = b.new_fields;
  new_labels = new;
  defined = defined;
  few = few;
}

label_more : (u : UnitText) (n : ℕ) (l : List ℕ) (own : List Placed) → IsBegun u own → has_label u.labels l ≡ false → IsBegun (add_label l u) (own ++ placed n (pieces.Label l) ∷ [])
label_more u n l own b new =
    let p = placed n (pieces.Label l) in
    let e : List ℕ × ℕ = (l, length u.statements + 1) in
    let long : length u.statements + 1 ≡ 1 + length (statements_in b.body) = omega (arith, ap length b.statements) in
    inner_more u (u.labels ++ e ∷ []) u.statements own p b refl
    (ap (λ (x : List (List ℕ × ℕ)). x ++ e ∷ []) b.labels ∙ sym (labels_append 1 b.body (p ∷ []) (length u.statements + 1) long))
    (b.statements ∙ sym (append-nil (statements_in b.body)) ∙ sym (statements_append b.body (p ∷ [])))
    (labels_new_more [] u.labels e b.new_labels new) b.defined b.few

statement_more : (u : UnitText) (n : ℕ) (a : Action) (own : List Placed) → IsBegun u own → uses (has_field u.fields) a ≡ true → length u.statements < 10000 → IsBegun (add_statement n a u) (own ++ placed n (pieces.Statement a) ∷ [])
statement_more u n a own b defined few =
    let p = placed n (pieces.Statement a) in
    let s : UnitStatement = record { line = n; action = a } in
    inner_more u u.labels (u.statements ++ s ∷ []) own p b refl
    (b.labels ∙ sym (append-nil (labels_in 1 b.body)) ∙ sym (labels_append 1 b.body (p ∷ []) (1 + length (statements_in b.body)) refl))
    (ap (λ (x : List UnitStatement). x ++ s ∷ []) b.statements ∙ sym (statements_append b.body (p ∷ [])))
    b.new_labels (all_more (λ (t : UnitStatement). uses (has_field u.fields) t.action) u.statements s b.defined defined) (omega (arith, length-append u.statements (s ∷ [])))

-- ---- units with one more

units_more : (before us : List UnitText) (u : UnitText) (whole own : List Placed) (n : ℕ) → AreUnits before us whole → MayComeAfter (before ++ us) u → IsBegun u own → AreUnits before (us ++ u ∷ []) (whole ++ (own ++ placed n pieces.End ∷ []))
units_more before [] u whole own n h may b =
    (own, [], n, ap (λ (x : List Placed). x ++ (own ++ placed n pieces.End ∷ [])) h, subst (λ (x : List UnitText). MayComeAfter x u) (append-nil before) may, b, refl)
units_more before (v ∷ vs) u whole own n h may b =
    let tail = own ++ placed n pieces.End ∷ [] in (
      h.0,
      h.1 ++ tail,
      h.2,
      ap (λ (x : List Placed). x ++ tail) h.3 ∙ append_assoc h.0 (placed h.2 pieces.End ∷ h.1) tail,
      h.4,
      h.5,
      units_more (before ++ v ∷ []) vs u h.1 own n h.6 (subst (λ (x : List UnitText). MayComeAfter x u) (sym (append_assoc before (v ∷ []) vs)) may) b,
    )

-- ---- one more piece

abbrev StandsNow : State → List Placed → Type 0
StandsNow s ps = Stand s.units s.current ps

begins : (us : List UnitText) (n : ℕ) (name : List ℕ) (ps : List Placed) → Stand us None ps → has_unit us name ≡ false → length us < 1000 → StandsNow (in_unit us (begun name n)) (ps ++ placed n (pieces.Unit name) ∷ [])
begins us n name ps h new few =
    let p = placed n (pieces.Unit name) in (
      h.0,
      p ∷ [],
      ap (λ (x : List Placed). x ++ p ∷ []) (h.2 ∙ ap (λ (x : List Placed). h.0 ++ x) h.4 ∙ append-nil h.0),
      h.3,
      (
        record { new = new; few = omega arith },
        record { heads = []; body = []; parts = refl; heads_are = refl; body_is = refl; fields = refl; labels = refl; statements = refl; new_fields = tt; new_labels = tt; defined = refl; few = omega arith },
      ),
    )

goes_further : (us : List UnitText) (u v : UnitText) (ps : List Placed) (p : Placed) (h : Stand us (Some u) ps) → MayComeAfter us v → IsBegun v (h.1 ++ p ∷ []) → StandsNow (in_unit us v) (ps ++ p ∷ [])
goes_further us u v ps p h may b =
    (h.0, h.1 ++ p ∷ [], ap (λ (x : List Placed). x ++ p ∷ []) h.2 ∙ append_assoc h.0 h.1 (p ∷ []), h.3, (may, b))

ends : (us : List UnitText) (u : UnitText) (n : ℕ) (ps : List Placed) → Stand us (Some u) ps → Stand (us ++ u ∷ []) None (ps ++ placed n pieces.End ∷ [])
ends us u n ps h =
    let p = placed n pieces.End in (
      ps ++ p ∷ [],
      [],
      sym (append-nil (ps ++ p ∷ [])),
      subst (AreUnits [] (us ++ u ∷ [])) (sym (ap (λ (x : List Placed). x ++ p ∷ []) h.2 ∙ append_assoc h.0 h.1 (p ∷ []))) (units_more [] us u h.0 h.1 n h.3 h.4.0 h.4.1),
      refl,
    )

statement_added : (n : ℕ) (a : Action) (u v : UnitText) → with_statement n a u ≡ Ok v → (uses (has_field u.fields) a ≡ true) × (length u.statements < 10000) × (add_statement n a u ≡ v)
statement_added n a u v e =
    elim (cases_Bool (uses (has_field u.fields) a)) [
      | inl h ↦ elim (cases_Bool (nat_le 10000 (length u.statements))) [
        | inl k ↦ absurd (cc (rw (h, k) at e))
        | inr k ↦ (h, leb-false 10000 (length u.statements) k, ok_is UnitFault (add_statement n a u) v (rw (h, k) at e))
      ]
      | inr h ↦ absurd (cc (rw h at e))
    ]

pub stand_more : (us : List UnitText) (o : Option UnitText) (n : ℕ) (piece : Piece) (t : State) (ps : List Placed) → Stand us o ps → by_current o n piece us ≡ Ok t → StandsNow t (ps ++ placed n piece ∷ [])
stand_more us None n (pieces.Unit name) t ps h e =
    elim (chosen (has_unit us name) (Err (UnitTwice n)) (cond (nat_le 1000 (length us)) (Err (TooLong n)) (Ok (in_unit us (begun name n)))) (Ok t) e) [
      | inl a ↦ absurd (cc a.1)
      | inr a ↦ elim (chosen (nat_le 1000 (length us)) (Err (TooLong n)) (Ok (in_unit us (begun name n))) (Ok t) a.1) [
        | inl b ↦ absurd (cc b.1)
        | inr b ↦ subst (λ (s : State). StandsNow s (ps ++ placed n (pieces.Unit name) ∷ [])) (ok_is UnitFault (in_unit us (begun name n)) t b.1) (begins us n name ps h a.0 (leb-false 1000 (length us) b.0))
      ]
    ]
stand_more us None n _ t ps h e = absurd cc
stand_more us (Some u) n (pieces.Unit name) t ps h e = absurd cc
stand_more us (Some u) n (pieces.Field name spab offset len) t ps h e =
    let f : Field = record { name = name; line = n; spab = spab; offset = offset; length = len } in
    let p = placed n (pieces.Field name spab offset len) in
    let m = bind_ok (with_field f u) (λ (v : UnitText). ok_of (in_unit us v)) t e in
    elim (chosen (has_no_body u) (cond (has_field u.fields name) (Err (BadField n)) (Ok (add_field f u))) (Err (BadStatement n)) (Ok m.0) m.1) [
      | inl a ↦ elim (chosen (has_field u.fields name) (Err (BadField n)) (Ok (add_field f u)) (Ok m.0) a.1) [
        | inl b ↦ absurd (cc b.1)
        | inr b ↦
            let v = ok_is UnitFault (add_field f u) m.0 b.1 in
            subst (λ (s : State). StandsNow s (ps ++ p ∷ [])) (ap (in_unit us) v ∙ ok_is UnitFault (in_unit us m.0) t m.2)
            (goes_further us u (add_field f u) ps p h (record { new = h.4.0.new; few = h.4.0.few }) (field_more u n name spab offset len h.1 h.4.1 a.0 b.0))
      ]
      | inr a ↦ absurd (cc a.1)
    ]
stand_more us (Some u) n (pieces.Label l) t ps h e =
    let p = placed n (pieces.Label l) in
    let m = bind_ok (with_label n l u) (λ (v : UnitText). ok_of (in_unit us v)) t e in
    elim (chosen (has_label u.labels l) (Err (LabelTwice n)) (Ok (add_label l u)) (Ok m.0) m.1) [
      | inl a ↦ absurd (cc a.1)
      | inr a ↦
          let v = ok_is UnitFault (add_label l u) m.0 a.1 in
          subst (λ (s : State). StandsNow s (ps ++ p ∷ [])) (ap (in_unit us) v ∙ ok_is UnitFault (in_unit us m.0) t m.2)
          (goes_further us u (add_label l u) ps p h (record { new = h.4.0.new; few = h.4.0.few }) (label_more u n l h.1 h.4.1 a.0))
    ]
stand_more us (Some u) n (pieces.Statement a) t ps h e =
    let p = placed n (pieces.Statement a) in
    let m = bind_ok (with_statement n a u) (λ (v : UnitText). ok_of (in_unit us v)) t e in
    let k = statement_added n a u m.0 m.1 in
    subst (λ (s : State). StandsNow s (ps ++ p ∷ [])) (ap (in_unit us) k.2 ∙ ok_is UnitFault (in_unit us m.0) t m.2)
    (goes_further us u (add_statement n a u) ps p h (record { new = h.4.0.new; few = h.4.0.few }) (statement_more u n a h.1 h.4.1 k.0 k.1))
stand_more us (Some u) n pieces.End t ps h e =
    subst (λ (s : State). StandsNow s (ps ++ placed n pieces.End ∷ [])) (ok_is UnitFault (record { units = us ++ u ∷ []; current = None }) t e) (ends us u n ps h)
