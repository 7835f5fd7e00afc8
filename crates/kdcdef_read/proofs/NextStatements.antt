-- The next statement, and what is left behind it.
use Rattle.std.proofs.Common.{◌≡◌, ◌≢◌, ℕ, suc, ◌+◌, ◌≤◌, inl, inr, List, [], ◌∷◌, length, drop, Option, Some, None, Bool, Result, Ok, Err, refl, sym, ap, ◌∙◌, subst, arith, add-one, slice_get}
use Rattle.std.proofs.Math.Seq.{drop-cons}
use Rattle.std.proofs.lemmas.Option.{slice_get_within, get_or_from_slice_get}
use Rattle.kd_base.specs.FirstFaults.{Unless}
use Rattle.kd_base.specs.Tools.{◌>>=◌}
use Rattle.kd_base.specs.ToolsLaws.{ok_is, bind_ok, chosen}
use Rattle.texts.specs.declared.kdcdef_lex.statement.RawOperand.{RawOperand}
use Rattle.texts.specs.declared.kdcdef_lex.statement.RawStatement.{RawStatement}
use Rattle.texts.specs.Bounds.{LinesUpTo, LinesFrom, operand_count}
use Rattle.application_types.specs.declared.kdcdef_types.statement.Said.{Said}
use Rattle.application_types.specs.declared.kdcdef_types.statement.Said.TheVariants as says
use Rattle.application_types.specs.declared.kdcdef_types.statement.Statement.{Statement}
use Rattle.kdcdef_read.specs.declared.fault.Cause.{Cause}
use Rattle.kdcdef_read.specs.declared.fault.ReadFault.{ReadFault}
use Rattle.kdcdef_read.specs.declared.fault.ReadFault.TheVariants.{AfterEnd, Memory}
use Rattle.kdcdef_read.specs.declared.operands.Given.{Given}
use Rattle.kdcdef_read.specs.declared.statement.Progress.{Progress}
use Rattle.kdcdef_read.specs.declared.words.Keyword.{Keyword}
use Rattle.kdcdef_read.specs.declared.words.Form.{Form}
use Rattle.kdcdef_read.specs.declared.words.Form.TheVariants as forms
use Rattle.kdcdef_read.specs.Faults.{is_memory}
use Rattle.kdcdef_read.specs.Words.{form_of}
use Rattle.kdcdef_read.specs.KeySets.{key_set_of}
use Rattle.kdcdef_read.specs.Said.{said_of}
use Rattle.kdcdef_read.specs.Filling.{answers, read_operands}
use Rattle.kdcdef_read.specs.Meaning.{statement, or_missing}
use Rattle.kdcdef_read.specs.Steps.{no_keys, for_max, said_by, with_taken, given_by, form_by, statement_by, behind, step, with_front, read_from}
use Rattle.kdcdef_read.specs.Reading.{IsWithinBounds}

-- the statements from a place on
from_place : (raw : List RawStatement) (i : ℕ) (r : RawStatement) → slice_get raw i ≡ Some r → drop i raw ≡ r ∷ drop (i + 1) raw
from_place raw i r h =
    rw add-one (drop-cons raw i r (slice_get_within raw i r h) ∙ ap (λ (y : RawStatement). y ∷ drop (suc i) raw) (get_or_from_slice_get raw i r r h))

-- ---- its line

missing_line : (line passed : ℕ) (o : Option Said) (s : Statement) → or_missing line passed o ≡ Ok s → s.line ≡ line
missing_line line passed None s e = absurd cc
missing_line line passed (Some said) s e = sym (ap (λ (x : Statement). x.line) (ok_is ReadFault (statement line passed said) s e))

given_line : (keyword : Keyword) (taken : List Bool) (line : ℕ) (os : List RawOperand) (r : Result Given Cause) (s : Statement) (after : List Bool) → given_by keyword taken line os r ≡ Ok (s, after) → s.line ≡ line
given_line keyword taken line os (Err cause) s after e = absurd cc
given_line keyword taken line os (Ok given) s after e =
    let b = bind_ok (said_by keyword line os given) (with_taken (for_max keyword given.taken taken)) (s, after) e in
    let same : b.0 ≡ s = ap (λ (p : Statement × List Bool). p.0) (ok_is ReadFault (b.0, for_max keyword given.taken taken) (s, after) b.2) in
    sym (ap (λ (x : Statement). x.line) same) ∙ missing_line line given.passed (said_of keyword (answers keyword given.slots) (key_set_of os)) b.0 b.1

form_line : (taken : List Bool) (r : RawStatement) (form : Option Form) (s : Statement) (after : List Bool) → form_by taken r form ≡ Ok (s, after) → s.line ≡ r.line
form_line taken r None s after e = absurd cc
form_line taken r (Some forms.Passed) s after e =
    sym (ap (λ (p : Statement × List Bool). p.0.line) (ok_is ReadFault (statement r.line 0 says.Passed, taken) (s, after) e))
form_line taken r (Some forms.End) s after e =
    sym (ap (λ (p : Statement × List Bool). p.0.line) (ok_is ReadFault (statement r.line (length r.operands) says.End, taken) (s, after) e))
form_line taken r (Some (forms.Kept keyword)) s after e =
    given_line keyword taken r.line r.operands (read_operands keyword (for_max keyword taken no_keys) r.operands) s after e

-- a statement has the line of its raw one, and the next one is behind it
pub step_line : (progress next : Progress) (r : RawStatement) (s : Statement) → step progress r ≡ Ok (s, next) → (s.line ≡ r.line) × (next.next ≡ r.line + 1)
step_line progress next r s e =
    elim (chosen progress.ended (Err (AfterEnd r.line)) (statement_by progress.taken r >>= behind r.line) (Ok (s, next)) e) [
      | inl h ↦ absurd (cc h.1)
      | inr h ↦
          let b = bind_ok (statement_by progress.taken r) (behind r.line) (s, next) h.1 in
          let same = ok_is ReadFault _ (s, next) b.2 in
          let first : b.0.0 ≡ s = ap (λ (p : Statement × Progress). p.0) same in
          (sym (ap (λ (x : Statement). x.line) first) ∙ form_line progress.taken r (form_of r.keyword) b.0.0 b.0.1 b.1, sym (ap (λ (p : Statement × Progress). p.1.next) same))
    ]

-- ---- what is left

pub is_followed : (progress next : Progress) (raw : List RawStatement) (i : ℕ) (r : RawStatement) (s : Statement) → slice_get raw i ≡ Some r → step progress r ≡ Ok (s, next)
    → read_from progress (drop i raw) ≡ with_front (s ∷ []) (read_from next (drop (i + 1) raw))
is_followed progress next raw i r s at stepped = rw (from_place raw i r at, stepped) refl

pub is_refused : (progress : Progress) (raw : List RawStatement) (i : ℕ) (r : RawStatement) (e : ReadFault) → slice_get raw i ≡ Some r → step progress r ≡ Err e → read_from progress (drop i raw) ≡ Err e
is_refused progress raw i r e at stepped = rw (from_place raw i r at, stepped) refl

pub is_within : (progress : Progress) (raw : List RawStatement) (i : ℕ) (r : RawStatement) → slice_get raw i ≡ Some r → IsWithinBounds progress i raw → (length r.operands ≤ 16777216) × (r.line ≤ 16777217) × (progress.next ≤ r.line)
is_within progress raw i r at within =
    let from = from_place raw i r at in
    let lines : LinesUpTo 16777217 (r ∷ drop (i + 1) raw) = subst (LinesUpTo 16777217) from within.lines in
    let order : LinesFrom progress.next (r ∷ drop (i + 1) raw) = subst (LinesFrom progress.next) from within.order in
    (omega (arith, within.operands, ap operand_count from), lines.0, order.0)

pub still_within : (progress next : Progress) (raw : List RawStatement) (i : ℕ) (r : RawStatement) → slice_get raw i ≡ Some r → next.next ≡ r.line + 1 → IsWithinBounds progress i raw → IsWithinBounds next (i + 1) raw
still_within progress next raw i r at is within =
    let from = from_place raw i r at in
    let lines : LinesUpTo 16777217 (r ∷ drop (i + 1) raw) = subst (LinesUpTo 16777217) from within.lines in
    let order : LinesFrom progress.next (r ∷ drop (i + 1) raw) = subst (LinesFrom progress.next) from within.order in
    record {
      lines = lines.1;
      operands = omega (arith, within.operands, ap operand_count from);
      order = subst (λ (n : ℕ). LinesFrom n (drop (i + 1) raw)) (sym is) order.1;
    }

-- where memory did not run out, this stands
pub told : {P : Type 0} (e : ReadFault) → e ≢ Memory → Unless (is_memory e) P → P
told Memory other h = absurd (other refl)
told e other h = h
