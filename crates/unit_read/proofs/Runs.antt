-- Lines one after another, and the pieces that they are.
use Rattle.std.proofs.Common.{◌≡◌, ℕ, ◌+◌, ◌<◌, ◌≤◌, Bool, true, false, List, [], ◌∷◌, ◌++◌, length, Option, Some, None, Result, Ok, Err, refl, sym, ap, ◌∙◌, subst, inl, inr, arith, append_assoc}
use Rattle.std.proofs.Common.{length-append}
use Rattle.std.specs.Prelude.{nat_le}
use Rattle.std.proofs.lemmas.Bool.Decides.{nat_tests}
use Rattle.std.proofs.lemmas.List.{append-nil}
use Rattle.kd_base.specs.Tools.{◌>>=◌}
use Rattle.kd_base.specs.ToolsLaws.{chosen, both_true, ok_is, ok_of, bind_ok}
use Rattle.application_types.specs.declared.unit_types.action.Action.{Action}
use Rattle.application_types.specs.declared.unit_types.action.UnitStatement.{UnitStatement}
use Rattle.application_types.specs.declared.unit_types.unit.Field.{Field}
use Rattle.application_types.specs.UnitText.{UnitText}
use Rattle.unit_read.specs.declared.fault.UnitFault.{UnitFault}
use Rattle.unit_read.specs.declared.piece.Piece.{Piece}
use Rattle.unit_read.specs.declared.piece.Piece.TheVariants as pieces
use Rattle.unit_read.specs.Lines.{is_passed}
use Rattle.unit_read.specs.Names.{has_field, has_label}
use Rattle.unit_read.specs.Used.{uses}
use Rattle.unit_read.specs.Units.{begun, add_field, add_label, add_statement, State, nothing_read, in_unit, stepped}
use Rattle.unit_read.specs.Reading.{piece_in, piece_step, line_step}
use Rattle.unit_read.specs.Grammar.{SpellsPiece}
use Rattle.unit_read.specs.Spelling.{Placed, placed, has_no_body, ArePieces, is_field, is_inner, are_fields, are_inner, field_in, label_in, statement_in, fields_in, statements_in, labels_in}
use Rattle.unit_read.specs.Spelling.{FieldsAreNew, LabelsAreNew, are_defined, IsBegun, MayComeAfter, AreUnits}
use Rattle.unit_read.specs.Faults.{IsOpen, Stand}
use Rattle.unit_read.proofs.Pieced.{line_is, line_again}
use Rattle.unit_read.proofs.Standing.{stand_more}

-- the state after pieces
abbrev pub run : List Placed → State → Result State UnitFault
run [] s = Ok s
run (p ∷ ps) s = stepped p.line p.piece s >>= run ps

-- the state after lines
abbrev pub after_lines : ℕ → List (List ℕ) → State → Result State UnitFault
after_lines n [] s = Ok s
after_lines n (line ∷ rest) s = line_step n line s >>= after_lines (n + 1) rest

-- ---- lines and pieces

one_piece : (n : ℕ) (line : List ℕ) (s : State) (piece : Piece) → SpellsPiece line piece → line_step n line s ≡ stepped n piece s
one_piece n line s piece h = rw (h.0, line_again line piece h) refl

same_behind : (r : Result State UnitFault) (f g : State → Result State UnitFault) → ((t : State) → f t ≡ g t) → (r >>= f) ≡ (r >>= g)
same_behind (Ok t) f g same = same t
same_behind (Err e) f g same = refl

pub pieces_run : (n : ℕ) (all : List (List ℕ)) (ps : List Placed) (s : State) → ArePieces n all ps → after_lines n all s ≡ run ps s
pieces_run n [] ps s h = ap (λ (x : List Placed). run x s) (sym h)
pieces_run n (line ∷ rest) ps s h =
    elim h [
      | inl a ↦ let passed = a.0 in rw passed (pieces_run (n + 1) rest ps s a.1)
      | inr a ↦
          ap (λ (r : Result State UnitFault). r >>= after_lines (n + 1) rest) (one_piece n line s a.0 a.3)
          ∙ same_behind (stepped n a.0 s) (after_lines (n + 1) rest) (run a.1) (λ t. pieces_run (n + 1) rest a.1 t a.4)
          ∙ ap (λ (x : List Placed). run x s) (sym a.2)
    ]

by_piece : (n : ℕ) (line : List ℕ) (s t : State) (found : Option Piece) → piece_in line ≡ found → piece_step n found s ≡ Ok t → (piece : Piece) × (piece_in line ≡ Some piece) × (stepped n piece s ≡ Ok t)
by_piece n line s t None is e = absurd cc
by_piece n line s t (Some piece) is e = (piece, is, e)

-- lines that are read are pieces
pub lines_are_pieces : (n : ℕ) (all : List (List ℕ)) (s t : State) → after_lines n all s ≡ Ok t → (ps : List Placed) × ArePieces n all ps × (run ps s ≡ Ok t)
lines_are_pieces n [] s t e = ([], refl, e)
lines_are_pieces n (line ∷ rest) s t e =
    let m = bind_ok (line_step n line s) (after_lines (n + 1) rest) t e in
    let more = lines_are_pieces (n + 1) rest m.0 t m.2 in
    elim (chosen (is_passed line) (Ok s) (piece_step n (piece_in line) s) (Ok m.0) m.1) [
      | inl h ↦ (more.0, inl (h.0, more.1), ap (run more.0) (ok_is UnitFault s m.0 h.1) ∙ more.2)
      | inr h ↦
          let p = by_piece n line s m.0 (piece_in line) refl h.1 in
          (placed n p.0 ∷ more.0, inr (p.0, more.0, refl, line_is line p.0 h.0 p.1, more.1), rw p.2 more.2)
    ]

-- ---- what was run stands

pub run_stands : (ps : List Placed) (s t : State) (before : List Placed) → Stand s.units s.current before → run ps s ≡ Ok t → Stand t.units t.current (before ++ ps)
run_stands [] s t before h e = subst (λ (x : State). Stand x.units x.current (before ++ [])) (ok_is UnitFault s t e) (subst (Stand s.units s.current) (sym (append-nil before)) h)
run_stands (p ∷ ps) s t before h e =
    let m = bind_ok (stepped p.line p.piece s) (run ps) t e in
    let one = stand_more s.units s.current p.line p.piece m.0 before h m.1 in
    subst (Stand t.units t.current) (append_assoc before (p ∷ []) ps) (run_stands ps m.0 t (before ++ p ∷ []) one m.2)

-- ---- what stands was run

below : (n m : ℕ) → n < m → nat_le m n ≡ false
below n m h = grind (arith, nat_tests)

field_step : (us : List UnitText) (u : UnitText) (n : ℕ) (name : List ℕ) (spab : Bool) (offset len : ℕ) → has_no_body u ≡ true → has_field u.fields name ≡ false
    → stepped n (pieces.Field name spab offset len) (in_unit us u) ≡ Ok (in_unit us (add_field (record { name = name; line = n; spab = spab; offset = offset; length = len }) u))
field_step us u n name spab offset len none new = rw (none, new) refl

heads_first : (us : List UnitText) (u : UnitText) (n : ℕ) (piece : Piece) (ps : List Placed) → is_field piece ≡ true → has_no_body u ≡ true → FieldsAreNew u.fields (field_in n piece ++ fields_in ps)
    → (f : Field) × (field_in n piece ≡ f ∷ []) × (stepped n piece (in_unit us u) ≡ Ok (in_unit us (add_field f u))) × FieldsAreNew (u.fields ++ f ∷ []) (fields_in ps)
heads_first us u n (pieces.Field name spab offset len) ps is none new =
    (record { name = name; line = n; spab = spab; offset = offset; length = len }, refl, field_step us u n name spab offset len none new.0, new.1)
heads_first us u n _ ps is none new = absurd cc

heads_run : (us : List UnitText) (heads rest : List Placed) (u v : UnitText) → are_fields heads ≡ true → has_no_body u ≡ true → FieldsAreNew u.fields (fields_in heads)
    → v ≡ record { name = u.name; line = u.line; fields = u.fields ++ fields_in heads; labels = u.labels; statements = u.statements } → run (heads ++ rest) (in_unit us u) ≡ run rest (in_unit us v)
heads_run us [] rest u v is none new e = ap (λ (x : UnitText). run rest (in_unit us x)) (ap (λ (fs : List Field). let w : UnitText = record { name = u.name; line = u.line; fields = fs; labels = u.labels; statements = u.statements } in w) (sym (append-nil u.fields)) ∙ sym e)
heads_run us (p ∷ heads) rest u v is none new e =
    let a = both_true (is_field p.piece) (are_fields heads) is in
    let first = heads_first us u p.line p.piece heads a.0 none new in
    let parts : u.fields ++ (field_in p.line p.piece ++ fields_in heads) ≡ (u.fields ++ first.0 ∷ []) ++ fields_in heads =
    ap (λ (fs : List Field). u.fields ++ (fs ++ fields_in heads)) first.1 ∙ sym (append_assoc u.fields (first.0 ∷ []) (fields_in heads)) in
    rw first.2 (heads_run us heads rest (add_field first.0 u) v a.1 none first.3
    (e ∙ ap (λ (fs : List Field). let w : UnitText = record { name = u.name; line = u.line; fields = fs; labels = u.labels; statements = u.statements } in w) parts))

-- ---- labels and statements

record Steps (us : List UnitText) (u : UnitText) (n : ℕ) (piece : Piece) (k : ℕ) (v : UnitText) : Type 0 where
  step : stepped n piece (in_unit us u) ≡ Ok (in_unit us v)
  name : v.name ≡ u.name
  line : v.line ≡ u.line
  fields : v.fields ≡ u.fields
  labels : v.labels ≡ u.labels ++ label_in k piece
  statements : v.statements ≡ u.statements ++ statement_in n piece

label_step : (us : List UnitText) (u : UnitText) (n : ℕ) (l : List ℕ) (k : ℕ) → k ≡ length u.statements + 1 → has_label u.labels l ≡ false → Steps us u n (pieces.Label l) k (add_label l u)
label_step us u n l k at new = record {
  step = rw new refl;
  name = refl;
  line = refl;
  fields = refl;
  labels = ap (λ (m : ℕ). u.labels ++ (l, m) ∷ []) (sym at);
  statements = sym (append-nil u.statements);
}

statement_step : (us : List UnitText) (u : UnitText) (n : ℕ) (a : Action) (k : ℕ) → uses (has_field u.fields) a ≡ true → length u.statements < 10000 → Steps us u n (pieces.Statement a) k (add_statement n a u)
statement_step us u n a k defined few = record {
  step = rw (defined, below (length u.statements) 10000 few) refl;
  name = refl;
  line = refl;
  fields = refl;
  labels = sym (append-nil u.labels);
  statements = refl;
}

-- what is left to hold after the first piece
record Later (us : List UnitText) (u : UnitText) (n : ℕ) (piece : Piece) (k : ℕ) (ls : List (List ℕ × ℕ)) (ss : List UnitStatement) : Type 0 where
  next : UnitText
  steps : Steps us u n piece k next
  new : LabelsAreNew (u.labels ++ label_in k piece) ls
  defined : are_defined u.fields ss ≡ true

inner_step : (us : List UnitText) (u : UnitText) (n : ℕ) (piece : Piece) (k : ℕ) (ls : List (List ℕ × ℕ)) (ss : List UnitStatement) → is_inner piece ≡ true → k ≡ length u.statements + 1
    → LabelsAreNew u.labels (label_in k piece ++ ls) → are_defined u.fields (statement_in n piece ++ ss) ≡ true → length u.statements + length (statement_in n piece ++ ss) ≤ 10000 → Later us u n piece k ls ss
inner_step us u n (pieces.Label l) k ls ss is at new defined few = record { next = add_label l u; steps = label_step us u n l k at new.0; new = new.1; defined = defined }
inner_step us u n (pieces.Statement a) k ls ss is at new defined few =
    let d = both_true (uses (has_field u.fields) a) (are_defined u.fields ss) defined in
    record {
      next = add_statement n a u;
      steps = statement_step us u n a k d.0 (omega arith);
      new = subst (λ (x : List (List ℕ × ℕ)). LabelsAreNew x ls) (sym (append-nil u.labels)) new;
      defined = d.1;
    }
inner_step us u n _ k ls ss is at new defined few = absurd cc

record IsMore (u v : UnitText) (ls : List (List ℕ × ℕ)) (ss : List UnitStatement) : Type 0 where
  name : v.name ≡ u.name
  line : v.line ≡ u.line
  fields : v.fields ≡ u.fields
  labels : v.labels ≡ u.labels ++ ls
  statements : v.statements ≡ u.statements ++ ss

abbrev unit_with : List ℕ → ℕ → List Field → List (List ℕ × ℕ) → List UnitStatement → UnitText
unit_with name line fields labels statements = record { name = name; line = line; fields = fields; labels = labels; statements = statements }

same_unit : (u v : UnitText) → v.name ≡ u.name → v.line ≡ u.line → v.fields ≡ u.fields → v.labels ≡ u.labels → v.statements ≡ u.statements → u ≡ v
same_unit u v a b c d e =
    ap (λ (x : List ℕ). unit_with x u.line u.fields u.labels u.statements) (sym a)
    ∙ ap (λ (x : ℕ). unit_with v.name x u.fields u.labels u.statements) (sym b)
    ∙ ap (λ (x : List Field). unit_with v.name v.line x u.labels u.statements) (sym c)
    ∙ ap (λ (x : List (List ℕ × ℕ)). unit_with v.name v.line v.fields x u.statements) (sym d)
    ∙ ap (λ (x : List UnitStatement). unit_with v.name v.line v.fields v.labels x) (sym e)

body_run : (us : List UnitText) (body rest : List Placed) (u v : UnitText) (k : ℕ) → are_inner body ≡ true → k ≡ length u.statements + 1 → LabelsAreNew u.labels (labels_in k body)
    → are_defined u.fields (statements_in body) ≡ true → length u.statements + length (statements_in body) ≤ 10000 → IsMore u v (labels_in k body) (statements_in body)
    → run (body ++ rest) (in_unit us u) ≡ run rest (in_unit us v)
body_run us [] rest u v k is at new defined few more =
    ap (λ (x : UnitText). run rest (in_unit us x)) (same_unit u v more.name more.line more.fields (more.labels ∙ append-nil u.labels) (more.statements ∙ append-nil u.statements))
body_run us (p ∷ body) rest u v k is at new defined few more =
    let a = both_true (is_inner p.piece) (are_inner body) is in
    let m = k + length (statement_in p.line p.piece) in
    let l = inner_step us u p.line p.piece k (labels_in m body) (statements_in body) a.0 at new defined few in
    let s = l.steps in
    let long : length l.next.statements ≡ length u.statements + length (statement_in p.line p.piece) = ap length s.statements ∙ length-append u.statements (statement_in p.line p.piece) in
    rw s.step (body_run us body rest l.next v m a.1 (omega arith)
    (subst (λ (x : List (List ℕ × ℕ)). LabelsAreNew x (labels_in m body)) (sym s.labels) l.new)
    (ap (λ (x : List Field). are_defined x (statements_in body)) s.fields ∙ l.defined)
    (omega (arith, length-append (statement_in p.line p.piece) (statements_in body)))
    (record {
      name = more.name ∙ sym s.name;
      line = more.line ∙ sym s.line;
      fields = more.fields ∙ sym s.fields;
      labels = more.labels ∙ sym (append_assoc u.labels (label_in k p.piece) (labels_in m body)) ∙ ap (λ (x : List (List ℕ × ℕ)). x ++ labels_in m body) (sym s.labels);
      statements = more.statements ∙ sym (append_assoc u.statements (statement_in p.line p.piece) (statements_in body)) ∙ ap (λ (x : List UnitStatement). x ++ statements_in body) (sym s.statements);
    }))

-- ---- units

abbrev pub no_unit : List UnitText → State
no_unit us = record { units = us; current = None }

unit_line_step : (us : List UnitText) (u : UnitText) → MayComeAfter us u → stepped u.line (pieces.Unit u.name) (no_unit us) ≡ Ok (in_unit us (begun u.name u.line))
unit_line_step us u may = let few = may.few in rw (may.new, below (length us) 1000 (omega arith)) refl

unit_run : (us : List UnitText) (u : UnitText) (own rest : List Placed) → MayComeAfter us u → IsBegun u own → run (own ++ rest) (no_unit us) ≡ run rest (in_unit us u)
unit_run us u own rest may b =
    let with_heads = unit_with u.name u.line (fields_in b.heads) [] [] in
    let parts : own ++ rest ≡ placed u.line (pieces.Unit u.name) ∷ (b.heads ++ (b.body ++ rest)) =
    ap (λ (x : List Placed). x ++ rest) b.parts ∙ ap (λ (x : List Placed). placed u.line (pieces.Unit u.name) ∷ x) (append_assoc b.heads b.body rest) in
    let more : IsMore with_heads u (labels_in 1 b.body) (statements_in b.body) = record { name = refl; line = refl; fields = b.fields; labels = b.labels; statements = b.statements } in
    ap (λ (x : List Placed). run x (no_unit us)) parts
    ∙ ap (λ (r : Result State UnitFault). r >>= run (b.heads ++ (b.body ++ rest))) (unit_line_step us u may)
    ∙ heads_run us b.heads (b.body ++ rest) (begun u.name u.line) with_heads b.heads_are refl (subst (FieldsAreNew []) b.fields b.new_fields) refl
    ∙ body_run us b.body rest with_heads u 1 b.body_is refl (subst (LabelsAreNew []) b.labels b.new_labels)
    (ap (are_defined (fields_in b.heads)) (sym b.statements) ∙ ap (λ (x : List Field). are_defined x u.statements) (sym b.fields) ∙ b.defined)
    (let few = b.few in omega (arith, ap length b.statements)) more

units_run : (us before : List UnitText) (ps : List Placed) → AreUnits before us ps → run ps (no_unit before) ≡ Ok (no_unit (before ++ us))
units_run [] before ps h = ap (λ (x : List Placed). run x (no_unit before)) h ∙ ap (λ (x : List UnitText). ok_of (no_unit x)) (sym (append-nil before))
units_run (u ∷ us) before ps h =
    ap (λ (x : List Placed). run x (no_unit before)) h.3
    ∙ unit_run before u h.0 (placed h.2 pieces.End ∷ h.1) h.4 h.5
    ∙ units_run us (before ++ u ∷ []) h.1 h.6
    ∙ ap (λ (x : List UnitText). ok_of (no_unit x)) (append_assoc before (u ∷ []) us)

run_append : (xs ys : List Placed) (s t : State) → run xs s ≡ Ok t → run (xs ++ ys) s ≡ run ys t
run_append [] ys s t e = ap (run ys) (ok_is UnitFault s t e)
run_append (p ∷ xs) ys s t e =
    let m = bind_ok (stepped p.line p.piece s) (run xs) t e in
    rw m.1 (run_append xs ys m.0 t m.2)

open_run : (us : List UnitText) (o : Option UnitText) (own : List Placed) → IsOpen us o own → run own (no_unit us) ≡ Ok (record { units = us; current = o })
open_run us None own h = ap (λ (x : List Placed). run x (no_unit us)) h
open_run us (Some u) own h = ap (λ (x : List Placed). run x (no_unit us)) (sym (append-nil own)) ∙ unit_run us u own [] h.0 h.1

pub stand_run : (us : List UnitText) (o : Option UnitText) (ps : List Placed) → Stand us o ps → run ps nothing_read ≡ Ok (record { units = us; current = o })
stand_run us o ps h =
    ap (λ (x : List Placed). run x nothing_read) h.2 ∙ run_append h.0 h.1 nothing_read (no_unit us) (units_run us [] h.0 h.3) ∙ open_run us o h.1 h.4
