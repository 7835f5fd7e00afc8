-- What a statement is read as is what it says after those before it.
use Rattle.std.proofs.Common.{◌≡◌, ◌⊎◌, ℕ, Bool, true, List, [], ◌++◌, length, Option, Some, None, Result, Ok, Err, refl, sym, ap, ◌∙◌, subst, arith, inl, inr}
use Rattle.std.proofs.Math.Path.{fun_ext}
use Rattle.std.specs.Prelude.{is_some}
use Rattle.std.specs.Option.{option_or}
use Rattle.kd_base.specs.ToolsLaws.{bind_ok, bind_err, ok_is, err_is, ok_of, err_of}
use Rattle.texts.specs.declared.kdcdef_lex.statement.RawOperand.{RawOperand}
use Rattle.texts.specs.declared.kdcdef_lex.statement.RawStatement.{RawStatement}
use Rattle.application_types.specs.declared.kdcdef_types.statement.Said.TheVariants as says
use Rattle.application_types.specs.declared.kdcdef_types.statement.Statement.{Statement}
use Rattle.kdcdef_read.specs.declared.fault.Cause.{Cause}
use Rattle.kdcdef_read.specs.declared.fault.ReadFault.{ReadFault}
use Rattle.kdcdef_read.specs.declared.operands.Given.{Given}
use Rattle.kdcdef_read.specs.declared.words.Keyword.{Keyword}
use Rattle.kdcdef_read.specs.declared.words.Keyword.TheVariants as keywords
use Rattle.kdcdef_read.specs.declared.words.Form.{Form}
use Rattle.kdcdef_read.specs.declared.words.Form.TheVariants as forms
use Rattle.kdcdef_read.specs.declared.words.Key.{Key}
use Rattle.kdcdef_read.specs.declared.value.Value.{Value}
use Rattle.kdcdef_read.specs.Faults.{at_line}
use Rattle.kdcdef_read.specs.Words.{form_of}
use Rattle.kdcdef_read.specs.Table.{row_of}
use Rattle.kdcdef_read.specs.Operands.{said, default_in, answer_of, passed_in, first_cause}
use Rattle.kdcdef_read.specs.KeySets.{key_set_of}
use Rattle.kdcdef_read.specs.Said.{said_of}
use Rattle.kdcdef_read.specs.Filling.{is_taken, answers, nothing_given, read_operands}
use Rattle.kdcdef_read.specs.Meaning.{statement, shared, or_missing, unless, form_says, says_of}
use Rattle.kdcdef_read.specs.Steps.{no_keys, for_max, said_by, with_taken, given_by, kept_by, form_by, statement_by}
use Rattle.kdcdef_read.proofs.Slots.{no_slot, no_key}
use Rattle.kdcdef_read.proofs.Filled.{Fits, IsGiven, AreGiven, all_given, first_refused, append_none}

-- the keys taken are those that MAX has given before
pub record Marks (before : List RawOperand) (taken : List Bool) : Type 0 where
  pub full : length taken ≡ 28
  pub keys : (key : Key) → is_taken taken key ≡ is_some (said keywords.Max key before)

pub no_marks : Marks [] no_keys
no_marks = record { full = refl; keys = λ key. no_key key }

max_given : (before : List RawOperand) (taken : List Bool) → Marks before taken → IsGiven keywords.Max before (nothing_given taken)
max_given before taken m = record { slots = refl; keys = m.full; taken = m.keys; free = λ key none. no_slot key }

own_given : (keyword : Keyword) → IsGiven keyword [] (nothing_given no_keys)
own_given keyword = record { slots = refl; keys = refl; taken = λ key. no_key key; free = λ key none. no_slot key }

-- ---- a statement whose operands are kept

abbrev Meant : Keyword → List RawOperand → ℕ → List RawOperand → Result Statement ReadFault
Meant keyword own line os = unless line (first_cause keyword own os) (or_missing line (passed_in keyword os) (said_of keyword (answer_of keyword os) (key_set_of os)))

same_said : (keyword : Keyword) (own : List RawOperand) (taken : List Bool) (line : ℕ) (os : List RawOperand) (end : Given) → AreGiven true keyword own (nothing_given taken) os end → Meant keyword own line os ≡ said_by keyword line os end
same_said keyword own taken line os end a =
    let at : answers keyword end.slots ≡ answer_of keyword os =
    fun_ext (λ (key : Key). ap (λ (x : Option Value). option_or x (default_in (row_of keyword key))) (a.says key ∙ ap (λ (x : Option Value). option_or x (said keyword key os)) (no_slot key))) in
    let count : end.passed ≡ passed_in keyword os = omega (arith, a.passed) in
    ap (λ (c : Option Cause). unless line c (or_missing line (passed_in keyword os) (said_of keyword (answer_of keyword os) (key_set_of os)))) a.cause
    ∙ ap (λ (n : ℕ). or_missing line n (said_of keyword (answer_of keyword os) (key_set_of os))) (sym count)
    ∙ ap (λ (f : Key → Option Value). or_missing line end.passed (said_of keyword f (key_set_of os))) (sym at)

abbrev pair : Statement → List Bool → Statement × List Bool
pair s taken = (s, taken)

kept_ok : (keyword : Keyword) (own : List RawOperand) (taken other : List Bool) (line : ℕ) (os : List RawOperand) (g : Result Given Cause) (p : Statement × List Bool) → Fits true keyword own → IsGiven keyword own (nothing_given taken) → read_operands keyword taken os ≡ g → given_by keyword other line os g ≡ Ok p → (Meant keyword own line os ≡ Ok p.0) × ((end : Given) × IsGiven keyword (own ++ os) end × (p.1 ≡ for_max keyword end.taken other))
kept_ok keyword own taken other line os (Err cause) p fits given g e = absurd cc
kept_ok keyword own taken other line os (Ok end) p fits given g e =
    let a = all_given true keyword own (nothing_given taken) os end fits given g in
    let b = bind_ok (said_by keyword line os end) (with_taken (for_max keyword end.taken other)) p e in
    let is : pair b.0 (for_max keyword end.taken other) ≡ p = ok_is ReadFault (pair b.0 (for_max keyword end.taken other)) p b.2 in (
      same_said keyword own taken line os end a ∙ b.1 ∙ ap (λ (q : Statement × List Bool). ok_of {E = ReadFault} q.0) is,
      (end, a.now, sym (ap (λ (q : Statement × List Bool). q.1) is)),
    )

kept_err : (keyword : Keyword) (own : List RawOperand) (taken other : List Bool) (line : ℕ) (os : List RawOperand) (g : Result Given Cause) (fault : ReadFault) → Fits true keyword own → IsGiven keyword own (nothing_given taken) → read_operands keyword taken os ≡ g → given_by keyword other line os g ≡ Err fault → Meant keyword own line os ≡ Err fault
kept_err keyword own taken other line os (Err cause) fault fits given g e =
    ap (λ (c : Option Cause). unless line c (or_missing line (passed_in keyword os) (said_of keyword (answer_of keyword os) (key_set_of os)))) (first_refused true keyword own (nothing_given taken) os cause fits given g)
    ∙ ap (λ (x : ReadFault). err_of {A = Statement} x) (err_is (Statement × List Bool) (at_line line cause) fault e)
kept_err keyword own taken other line os (Ok end) fault fits given g e =
    let a = all_given true keyword own (nothing_given taken) os end fits given g in
    elim (bind_err (said_by keyword line os end) (with_taken (for_max keyword end.taken other)) fault e) [
      | inl bad ↦ same_said keyword own taken line os end a ∙ bad
      | inr b ↦ absurd (cc b.2)
    ]

-- ---- each form

abbrev Law : List RawOperand → RawStatement → Option Form → Statement × List Bool → Type 0
Law before r form p = (form_says (shared form before) r form ≡ Ok p.0) × Marks (before ++ shared form r.operands) p.1

kept_marks : (before : List RawOperand) (taken : List Bool) → Marks before taken → Marks (before ++ []) taken
kept_marks before taken m = subst (λ (x : List RawOperand). Marks x taken) (sym (append_none before)) m

max_marks : (before : List RawOperand) (end : Given) → IsGiven keywords.Max before end → Marks before end.taken
max_marks before end g = record { full = g.keys; keys = g.taken }

max_law : (before : List RawOperand) (taken : List Bool) (r : RawStatement) (p : Statement × List Bool) → Marks before taken → kept_by keywords.Max taken r ≡ Ok p → Law before r (Some (forms.Kept keywords.Max)) p
max_law before taken r p m e =
    let k = kept_ok keywords.Max before taken taken r.line r.operands (read_operands keywords.Max taken r.operands) p (inr refl) (max_given before taken m) refl e in
    (k.0, subst (λ (x : List Bool). Marks (before ++ r.operands) x) (sym k.1.2) (max_marks (before ++ r.operands) k.1.0 k.1.1))

pub form_ok : (before : List RawOperand) (taken : List Bool) (r : RawStatement) (form : Option Form) (p : Statement × List Bool) → Marks before taken → form_by taken r form ≡ Ok p → Law before r form p
form_ok before taken r None p m e = absurd cc
form_ok before taken r (Some forms.Passed) p m e =
    subst (Law before r (Some forms.Passed)) (ok_is ReadFault (pair (statement r.line 0 says.Passed) taken) p e) (refl, kept_marks before taken m)
form_ok before taken r (Some forms.End) p m e =
    subst (Law before r (Some forms.End)) (ok_is ReadFault (pair (statement r.line (length r.operands) says.End) taken) p e) (refl, kept_marks before taken m)
form_ok before taken r (Some (forms.Kept keywords.Max)) p m e = max_law before taken r p m e
form_ok before taken r (Some (forms.Kept keyword)) p m e =
    let k = kept_ok keyword [] no_keys taken r.line r.operands (read_operands keyword no_keys r.operands) p (inl refl) (own_given keyword) refl e in
    (k.0, subst (λ (x : List Bool). Marks (before ++ []) x) (sym k.1.2) (kept_marks before taken m))

pub form_err : (before : List RawOperand) (taken : List Bool) (r : RawStatement) (form : Option Form) (fault : ReadFault) → Marks before taken → form_by taken r form ≡ Err fault → form_says (shared form before) r form ≡ Err fault
form_err before taken r None fault m e = ap (λ (x : ReadFault). err_of {A = Statement} x) (err_is (Statement × List Bool) _ fault e)
form_err before taken r (Some forms.Passed) fault m e = absurd cc
form_err before taken r (Some forms.End) fault m e = absurd cc
form_err before taken r (Some (forms.Kept keywords.Max)) fault m e =
    kept_err keywords.Max before taken taken r.line r.operands (read_operands keywords.Max taken r.operands) fault (inr refl) (max_given before taken m) refl e
form_err before taken r (Some (forms.Kept keyword)) fault m e =
    kept_err keyword [] no_keys taken r.line r.operands (read_operands keyword no_keys r.operands) fault (inl refl) (own_given keyword) refl e

-- ---- the other way round

-- whatever is read, or refused, for a form
pub read_or_not : (q : Result (Statement × List Bool) ReadFault) → ((p : Statement × List Bool) × (q ≡ Ok p)) ⊎ ((fault : ReadFault) × (q ≡ Err fault))
read_or_not (Ok p) = inl (p, refl)
read_or_not (Err fault) = inr (fault, refl)

pub says_read : (before : List RawOperand) (taken : List Bool) (r : RawStatement) (s : Statement) → Marks before taken → says_of before r ≡ Ok s → (p : Statement × List Bool) × (statement_by taken r ≡ Ok p) × (p.0 ≡ s) × Marks (before ++ shared (form_of r.keyword) r.operands) p.1
says_read before taken r s m e =
    elim (read_or_not (statement_by taken r)) [
      | inl q ↦
          let k = form_ok before taken r (form_of r.keyword) q.0 m q.1 in
          (q.0, q.1, ok_is ReadFault q.0.0 s (sym k.0 ∙ e), k.1)
      | inr q ↦ let k = form_err before taken r (form_of r.keyword) q.0 m q.1 in absurd (cc (k, e))
    ]

pub says_refused : (before : List RawOperand) (taken : List Bool) (r : RawStatement) (fault : ReadFault) → Marks before taken → says_of before r ≡ Err fault → statement_by taken r ≡ Err fault
says_refused before taken r fault m e =
    elim (read_or_not (statement_by taken r)) [
      | inl q ↦ let k = form_ok before taken r (form_of r.keyword) q.0 m q.1 in absurd (cc (k.0, e))
      | inr q ↦
          let k = form_err before taken r (form_of r.keyword) q.0 m q.1 in
          q.1 ∙ ap (λ (x : ReadFault). err_of {A = Statement × List Bool} x) (err_is Statement q.0 fault (sym k ∙ e))
    ]
