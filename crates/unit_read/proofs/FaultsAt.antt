-- The faults of pieces and of texts: what is answered is there, and what is there is answered.
use Rattle.std.proofs.Common.{◌≡◌, ℕ, ◌+◌, ◌<◌, ◌≤◌, true, false, cond, List, [], ◌∷◌, ◌++◌, length, Option, Some, None, Result, Ok, Err, refl, sym, ap, ◌∙◌, subst, inl, inr, arith}
use Rattle.std.specs.Prelude.{nat_le, nat_lt}
use Rattle.std.specs.Str.Lines.{lines}
use Rattle.std.proofs.lemmas.Bool.{cases_Bool, leb-true, ltb-true, ltb-false, le-leb}
use Rattle.std.proofs.lemmas.Bool.Decides.{nat_tests}
use Rattle.std.proofs.lemmas.List.{append-nil}
use Rattle.kd_base.specs.Tools.{◌>>=◌}
use Rattle.kd_base.specs.ToolsLaws.{chosen, ok_is, err_is, ok_of, err_of, bind_ok, bind_err}
use Rattle.application_types.specs.declared.unit_types.unit.Field.{Field}
use Rattle.application_types.specs.UnitText.{UnitText}
use Rattle.unit_read.specs.declared.fault.UnitFault.{UnitFault}
use Rattle.unit_read.specs.declared.fault.UnitFault.TheVariants.{BadStatement, BadField, LabelTwice, NoEnd, UnitTwice, TooLong, Memory}
use Rattle.unit_read.specs.declared.piece.Piece.{Piece}
use Rattle.unit_read.specs.declared.piece.Piece.TheVariants as pieces
use Rattle.unit_read.specs.Lines.{is_passed}
use Rattle.unit_read.specs.Names.{has_field, has_label, has_unit}
use Rattle.unit_read.specs.Used.{uses}
use Rattle.unit_read.specs.Units.{add_field, add_label, with_field, with_label, with_statement, begun, State, in_unit, nothing_read, by_current, finished}
use Rattle.unit_read.specs.Reading.{piece_in, piece_step, line_step, read_from, read_text}
use Rattle.unit_read.specs.Grammar.{SpellsPiece}
use Rattle.unit_read.specs.Spelling.{Placed, has_no_body, ArePieces, AreUnits, SpellsUnits}
use Rattle.unit_read.specs.Faults.{Stand, IsMisplaced, NamesBadField, RepeatsLabel, MeetsUnit, RepeatsUnit, IsOneTooMany, PieceFault, LineFault, EndFault, FaultNext, FirstFault, HasTextFault}
use Rattle.unit_read.proofs.Pieced.{line_is, line_again}
use Rattle.unit_read.proofs.Runs.{after_lines, no_unit, pieces_run, lines_are_pieces, run_stands, stand_run}

-- ---- a piece

err_for : (n : ℕ) (us : List UnitText) (o : Option UnitText) (piece : Piece) (d e : UnitFault) → PieceFault n us o piece d → err_of {A = State} d ≡ err_of {A = State} e → PieceFault n us o piece e
err_for n us o piece d e h is = subst (PieceFault n us o piece) (err_is State d e is) h

unit_err : (n : ℕ) (us : List UnitText) (u : UnitText) (piece : Piece) (r : Result UnitText UnitFault) (e : UnitFault) → (r >>= λ v. ok_of (in_unit us v)) ≡ Err e → r ≡ Err e
unit_err n us u piece (Ok v) e h = absurd cc
unit_err n us u piece (Err d) e h = ap (λ (x : UnitFault). err_of {A = UnitText} x) (err_is State d e h)

err_unit : (n : ℕ) (us : List UnitText) (o : Option UnitText) (piece : Piece) (d e : UnitFault) → PieceFault n us o piece d → err_of {A = UnitText} d ≡ err_of {A = UnitText} e → PieceFault n us o piece e
err_unit n us o piece d e h is = subst (PieceFault n us o piece) (err_is UnitText d e is) h

fault_is : (n : ℕ) (us : List UnitText) (o : Option UnitText) (piece : Piece) (e : UnitFault) → by_current o n piece us ≡ Err e → PieceFault n us o piece e
fault_is n us None (pieces.Unit name) e h =
    elim (chosen (has_unit us name) (Err (UnitTwice n)) (cond (nat_le 1000 (length us)) (Err (TooLong n)) (Ok (in_unit us (begun name n)))) (Err e) h) [
      | inl a ↦ err_for n us None (pieces.Unit name) (UnitTwice n) e (refl, a.0) a.1
      | inr a ↦ elim (chosen (nat_le 1000 (length us)) (Err (TooLong n)) (Ok (in_unit us (begun name n))) (Err e) a.1) [
        | inl b ↦ err_for n us None (pieces.Unit name) (TooLong n) e (refl, (a.0, leb-true 1000 (length us) b.0)) b.1
        | inr b ↦ absurd (cc b.1)
      ]
    ]
fault_is n us None piece e h = err_for n us None piece (BadStatement n) e (refl, tt) h
fault_is n us (Some u) (pieces.Unit name) e h = err_for n us (Some u) (pieces.Unit name) (NoEnd n) e (refl, tt) h
fault_is n us (Some u) (pieces.Field name spab offset len) e h =
    let piece = pieces.Field name spab offset len in
    let f : Field = record { name = name; line = n; spab = spab; offset = offset; length = len } in
    let r = unit_err n us u piece (with_field f u) e h in
    elim (chosen (has_no_body u) (cond (has_field u.fields name) (Err (BadField n)) (Ok (add_field f u))) (Err (BadStatement n)) (Err e) r) [
      | inl a ↦ elim (chosen (has_field u.fields name) (Err (BadField n)) (Ok (add_field f u)) (Err e) a.1) [
        | inl b ↦ err_unit n us (Some u) piece (BadField n) e (refl, (a.0, b.0)) b.1
        | inr b ↦ absurd (cc b.1)
      ]
      | inr a ↦ err_unit n us (Some u) piece (BadStatement n) e (refl, a.0) a.1
    ]
fault_is n us (Some u) (pieces.Label l) e h =
    let r = unit_err n us u (pieces.Label l) (with_label n l u) e h in
    elim (chosen (has_label u.labels l) (Err (LabelTwice n)) (Ok (add_label l u)) (Err e) r) [
      | inl a ↦ err_unit n us (Some u) (pieces.Label l) (LabelTwice n) e (refl, a.0) a.1
      | inr a ↦ absurd (cc a.1)
    ]
fault_is n us (Some u) (pieces.Statement a) e h =
    let piece = pieces.Statement a in
    let r = unit_err n us u piece (with_statement n a u) e h in
    elim (cases_Bool (uses (has_field u.fields) a)) [
      | inl d ↦ elim (cases_Bool (nat_le 10000 (length u.statements))) [
        | inl k ↦ err_unit n us (Some u) piece (TooLong n) e (refl, (d, leb-true 10000 (length u.statements) k)) (rw (d, k) at r)
        | inr k ↦ absurd (cc (rw (d, k) at r))
      ]
      | inr d ↦ err_unit n us (Some u) piece (BadField n) e (refl, d) (rw d at r)
    ]
fault_is n us (Some u) pieces.End e h = absurd cc

misplaced : (n : ℕ) (us : List UnitText) (o : Option UnitText) (piece : Piece) → IsMisplaced o piece → by_current o n piece us ≡ Err (BadStatement n)
misplaced n us None (pieces.Unit name) h = absurd h
misplaced n us None _ h = refl
misplaced n us (Some u) (pieces.Field name spab offset len) h = rw h refl
misplaced n us (Some u) _ h = absurd h

bad_field : (n : ℕ) (us : List UnitText) (o : Option UnitText) (piece : Piece) → NamesBadField o piece → by_current o n piece us ≡ Err (BadField n)
bad_field n us (Some u) (pieces.Field name spab offset len) h = rw (h.0, h.1) refl
bad_field n us (Some u) (pieces.Statement a) h = rw h refl
bad_field n us _ _ h = absurd h

label_twice : (n : ℕ) (us : List UnitText) (o : Option UnitText) (piece : Piece) → RepeatsLabel o piece → by_current o n piece us ≡ Err (LabelTwice n)
label_twice n us (Some u) (pieces.Label l) h = rw h refl
label_twice n us _ _ h = absurd h

meets_unit : (n : ℕ) (us : List UnitText) (o : Option UnitText) (piece : Piece) → MeetsUnit o piece → by_current o n piece us ≡ Err (NoEnd n)
meets_unit n us (Some u) (pieces.Unit name) h = refl
meets_unit n us _ _ h = absurd h

unit_twice : (n : ℕ) (us : List UnitText) (o : Option UnitText) (piece : Piece) → RepeatsUnit us o piece → by_current o n piece us ≡ Err (UnitTwice n)
unit_twice n us None (pieces.Unit name) h = rw h refl
unit_twice n us _ _ h = absurd h

too_many : (n : ℕ) (us : List UnitText) (o : Option UnitText) (piece : Piece) → IsOneTooMany us o piece → by_current o n piece us ≡ Err (TooLong n)
too_many n us None (pieces.Unit name) h = rw (h.0, le-leb 1000 (length us) h.1) refl
too_many n us (Some u) (pieces.Statement a) h = rw (h.0, le-leb 10000 (length u.statements) h.1) refl
too_many n us _ _ h = absurd h

abbrev Answers : ℕ → List UnitText → Option UnitText → Piece → (ℕ → UnitFault) → ℕ → Type 0
Answers n us o piece fault m = by_current o n piece us ≡ Err (fault m)

fault_again : (n : ℕ) (us : List UnitText) (o : Option UnitText) (piece : Piece) (e : UnitFault) → PieceFault n us o piece e → by_current o n piece us ≡ Err e
fault_again n us o piece (BadStatement m) h = subst (Answers n us o piece (λ x. BadStatement x)) (sym h.0) (misplaced n us o piece h.1)
fault_again n us o piece (BadField m) h = subst (Answers n us o piece (λ x. BadField x)) (sym h.0) (bad_field n us o piece h.1)
fault_again n us o piece (LabelTwice m) h = subst (Answers n us o piece (λ x. LabelTwice x)) (sym h.0) (label_twice n us o piece h.1)
fault_again n us o piece (NoEnd m) h = subst (Answers n us o piece (λ x. NoEnd x)) (sym h.0) (meets_unit n us o piece h.1)
fault_again n us o piece (UnitTwice m) h = subst (Answers n us o piece (λ x. UnitTwice x)) (sym h.0) (unit_twice n us o piece h.1)
fault_again n us o piece (TooLong m) h = subst (Answers n us o piece (λ x. TooLong x)) (sym h.0) (too_many n us o piece h.1)
fault_again n us o piece Memory h = absurd h

-- ---- a line

by_found : (n : ℕ) (line : List ℕ) (s : State) (found : Option Piece) (e : UnitFault) → is_passed line ≡ false → piece_in line ≡ found → piece_step n found s ≡ Err e → LineFault n line s.units s.current e
by_found n line s None e stands is h =
    (stands, inl (λ piece spells. absurd (cc (sym is ∙ line_again line piece spells)), sym (err_is State (BadStatement n) e h)))
by_found n line s (Some piece) e stands is h = (stands, inr (piece, line_is line piece stands is, fault_is n s.units s.current piece e h))

line_fault : (n : ℕ) (line : List ℕ) (s : State) (e : UnitFault) → line_step n line s ≡ Err e → LineFault n line s.units s.current e
line_fault n line s e h =
    elim (chosen (is_passed line) (Ok s) (piece_step n (piece_in line) s) (Err e) h) [
      | inl a ↦ absurd (cc a.1)
      | inr a ↦ by_found n line s (piece_in line) e a.0 refl a.1
    ]

no_piece : (n : ℕ) (line : List ℕ) (s : State) (found : Option Piece) → is_passed line ≡ false → piece_in line ≡ found → ((piece : Piece) → SpellsPiece line piece → ⊥) → piece_step n found s ≡ Err (BadStatement n)
no_piece n line s None stands is none = refl
no_piece n line s (Some piece) stands is none = absurd (none piece (line_is line piece stands is))

line_fault_again : (n : ℕ) (line : List ℕ) (s : State) (e : UnitFault) → LineFault n line s.units s.current e → line_step n line s ≡ Err e
line_fault_again n line s e f =
    let stands = f.0 in
    elim f.1 [
      | inl h ↦ rw stands (no_piece n line s (piece_in line) stands refl h.0 ∙ ap (λ (x : UnitFault). err_of {A = State} x) (sym h.1))
      | inr h ↦ rw (stands, line_again line h.0 h.1) (fault_again n s.units s.current h.0 e h.2)
    ]

-- ---- a text

end_fault : (n : ℕ) (o : Option UnitText) (us : List UnitText) (e : UnitFault) → finished n (record { units = us; current = o }) ≡ Err e → EndFault n o e
end_fault n None us e h = absurd cc
end_fault n (Some u) us e h = sym (err_is (List UnitText) (NoEnd n) e h)

end_fault_again : (n : ℕ) (o : Option UnitText) (us : List UnitText) (e : UnitFault) → EndFault n o e → finished n (record { units = us; current = o }) ≡ Err e
end_fault_again n None us e h = absurd h
end_fault_again n (Some u) us e h = ap (λ (x : UnitFault). err_of {A = List UnitText} x) (sym h)

-- where reading stopped
record Stopped (n : ℕ) (all : List (List ℕ)) (s : State) (e : UnitFault) : Type 0 where
  above : List (List ℕ)
  below : List (List ℕ)
  parts : all ≡ above ++ below
  state : State
  read : after_lines n above s ≡ Ok state
  next : FaultNext (n + length above) below state.units state.current e

next_fault : (n m : ℕ) (below : List (List ℕ)) (us : List UnitText) (o : Option UnitText) (e : UnitFault) → n ≡ m → FaultNext n below us o e → FaultNext m below us o e
next_fault n m below us o e is h = subst (λ (x : ℕ). FaultNext x below us o e) is h

one_above : (n : ℕ) (line : List ℕ) (rest : List (List ℕ)) (s t : State) (e : UnitFault) → line_step n line s ≡ Ok t → Stopped (n + 1) rest t e → Stopped n (line ∷ rest) s e
one_above n line rest s t e one more = record {
  above = line ∷ more.above;
  below = more.below;
  parts = ap (λ (x : List (List ℕ)). line ∷ x) more.parts;
  state = more.state;
  read = rw one more.read;
  next = next_fault (n + 1 + length more.above) (n + length (line ∷ more.above)) more.below more.state.units more.state.current e (omega arith) more.next;
}

stopped : (n : ℕ) (all : List (List ℕ)) (s : State) (e : UnitFault) → read_from n all s ≡ Err e → Stopped n all s e
stopped n [] s e h = record { above = []; below = []; parts = refl; state = s; read = refl; next = next_fault n (n + 0) [] s.units s.current e (omega arith) (end_fault n s.current s.units e h) }
stopped n (line ∷ rest) s e h =
    elim (bind_err (line_step n line s) (read_from (n + 1) rest) e h) [
      | inl a ↦ record { above = []; below = line ∷ rest; parts = refl; state = s; read = refl; next = next_fault n (n + 0) (line ∷ rest) s.units s.current e (omega arith) (line_fault n line s e a) }
      | inr a ↦ one_above n line rest s a.0 e a.1 (stopped (n + 1) rest a.0 e a.2)
    ]

read_behind : (n m : ℕ) (above below : List (List ℕ)) (s t : State) → after_lines n above s ≡ Ok t → m ≡ n + length above → read_from n (above ++ below) s ≡ read_from m below t
read_behind n m [] below s t e at = let is : n ≡ m = omega arith in ap (λ (x : State). read_from n below x) (ok_is UnitFault s t e) ∙ ap (λ (x : ℕ). read_from x below t) is
read_behind n m (line ∷ above) below s t e at =
    let a = bind_ok (line_step n line s) (after_lines (n + 1) above) t e in
    rw a.1 (read_behind (n + 1) m above below a.0 t a.2 (omega arith))

next_read : (n : ℕ) (below : List (List ℕ)) (us : List UnitText) (o : Option UnitText) (e : UnitFault) → FaultNext n below us o e → read_from n below (record { units = us; current = o }) ≡ Err e
next_read n [] us o e h = end_fault_again n o us e h
next_read n (line ∷ rest) us o e h = rw (line_fault_again n line (record { units = us; current = o }) e h) refl

first_fault_is : (all : List (List ℕ)) (e : UnitFault) → read_from 1 all nothing_read ≡ Err e → FirstFault all e
first_fault_is all e h =
    let s = stopped 1 all nothing_read e h in
    let p = lines_are_pieces 1 s.above nothing_read s.state s.read in
    record {
      above = s.above;
      below = s.below;
      parts = s.parts;
      ps = p.0;
      spelled = p.1;
      us = s.state.units;
      open_unit = s.state.current;
      stand = run_stands p.0 nothing_read s.state [] ([], [], refl, refl, refl) p.2;
      next = next_fault (1 + length s.above) (length s.above + 1) s.below s.state.units s.state.current e (omega arith) s.next;
    }

first_fault_again : (all : List (List ℕ)) (e : UnitFault) → FirstFault all e → read_from 1 all nothing_read ≡ Err e
first_fault_again all e f =
    let t : State = record { units = f.us; current = f.open_unit } in
    let read : after_lines 1 f.above nothing_read ≡ Ok t = pieces_run 1 f.above f.ps nothing_read f.spelled ∙ stand_run f.us f.open_unit f.ps f.stand in
    ap (λ (x : List (List ℕ)). read_from 1 x nothing_read) f.parts
    ∙ read_behind 1 (length f.above + 1) f.above f.below nothing_read t read (omega arith)
    ∙ next_read (length f.above + 1) f.below f.us f.open_unit e f.next

-- ---- what is read

ends_closed : (o : Option UnitText) (n : ℕ) (units us : List UnitText) → finished n (record { units = units; current = o }) ≡ Ok us → (o ≡ None) × (units ≡ us)
ends_closed None n units us h = (refl, ok_is UnitFault units us h)
ends_closed (Some u) n units us h = absurd cc

read_ends : (n : ℕ) (all : List (List ℕ)) (s : State) (us : List UnitText) → read_from n all s ≡ Ok us → (t : State) × (after_lines n all s ≡ Ok t) × (t.current ≡ None) × (t.units ≡ us)
read_ends n [] s us h = let e = ends_closed s.current n s.units us h in (s, refl, e.0, e.1)
read_ends n (line ∷ rest) s us h =
    let a = bind_ok (line_step n line s) (read_from (n + 1) rest) us h in
    let more = read_ends (n + 1) rest a.0 us a.2 in
    (more.0, ap (λ (r : Result State UnitFault). r >>= after_lines (n + 1) rest) a.1 ∙ more.1, more.2, more.3)

whole_units : (us : List UnitText) (o : Option UnitText) (ps : List Placed) → o ≡ None → Stand us o ps → AreUnits [] us ps
whole_units us (Some u) ps is h = absurd cc
whole_units us None ps is h = subst (AreUnits [] us) (sym (h.2 ∙ ap (λ (x : List Placed). h.0 ++ x) h.4 ∙ append-nil h.0)) h.3

units_are : (all : List (List ℕ)) (us : List UnitText) → read_from 1 all nothing_read ≡ Ok us → (ps : List Placed) × ArePieces 1 all ps × AreUnits [] us ps
units_are all us h =
    let e = read_ends 1 all nothing_read us h in
    let p = lines_are_pieces 1 all nothing_read e.0 e.1 in
    let stand = run_stands p.0 nothing_read e.0 [] ([], [], refl, refl, refl) p.2 in
    (p.0, p.1, subst (λ (x : List UnitText). AreUnits [] x p.0) e.3 (whole_units e.0.units e.0.current p.0 e.2 stand))

read_all : (n m : ℕ) (all : List (List ℕ)) (s t : State) → after_lines n all s ≡ Ok t → m ≡ n + length all → read_from n all s ≡ finished m t
read_all n m [] s t e at = let is : n ≡ m = omega arith in ap (λ (x : State). finished n x) (ok_is UnitFault s t e) ∙ ap (λ (x : ℕ). finished x t) is
read_all n m (line ∷ all) s t e at =
    let a = bind_ok (line_step n line s) (after_lines (n + 1) all) t e in
    rw a.1 (read_all (n + 1) m all a.0 t a.2 (omega arith))

units_again : (all : List (List ℕ)) (us : List UnitText) (ps : List Placed) → ArePieces 1 all ps → AreUnits [] us ps → read_from 1 all nothing_read ≡ Ok us
units_again all us ps spelled units =
    read_all 1 (1 + length all) all nothing_read (no_unit us) (pieces_run 1 all ps nothing_read spelled ∙ stand_run us None ps (ps, [], sym (append-nil ps), units, refl)) refl

-- ---- the text

pub text_is : (text : List ℕ) (us : List UnitText) → read_text text ≡ Ok us → SpellsUnits text us
text_is text us e =
    elim (chosen (nat_lt 16777216 (length text)) (Err (TooLong 0)) (read_from 1 (lines text) nothing_read) (Ok us) e) [
      | inl h ↦ absurd (cc h.1)
      | inr h ↦ let u = units_are (lines text) us h.1 in (ltb-false 16777216 (length text) h.0, u.0, u.1, u.2)
    ]

short : (text : List ℕ) → length text ≤ 16777216 → nat_lt 16777216 (length text) ≡ false
short text le = grind (arith, nat_tests)

long : (text : List ℕ) → 16777216 < length text → nat_lt 16777216 (length text) ≡ true
long text lt = grind (arith, nat_tests)

pub text_again : (text : List ℕ) (us : List UnitText) → SpellsUnits text us → read_text text ≡ Ok us
text_again text us h = rw (short text h.0) (units_again (lines text) us h.1 h.2 h.3)

pub fault_stands : (text : List ℕ) (e : UnitFault) → read_text text ≡ Err e → HasTextFault text e
fault_stands text e h =
    elim (chosen (nat_lt 16777216 (length text)) (Err (TooLong 0)) (read_from 1 (lines text) nothing_read) (Err e) h) [
      | inl a ↦ inl (ltb-true 16777216 (length text) a.0, sym (err_is (List UnitText) (TooLong 0) e a.1))
      | inr a ↦ inr (ltb-false 16777216 (length text) a.0, first_fault_is (lines text) e a.1)
    ]

pub fault_answered : (text : List ℕ) (e : UnitFault) → HasTextFault text e → read_text text ≡ Err e
fault_answered text e f =
    elim f [
      | inl h ↦ rw (long text h.0) (ap (λ (x : UnitFault). err_of {A = List UnitText} x) (sym h.1))
      | inr h ↦ rw (short text h.0) (first_fault_again (lines text) e h.1)
    ]
