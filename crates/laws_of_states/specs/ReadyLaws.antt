-- An open transaction that can go on has a unit run that can be stepped, with short operands.
use Rattle.std.specs.Prelude.{◌≡◌, refl, ℕ, suc, ◌+◌, ◌-◌, ◌≤◌, Bool, true, false, cond, IsTrue, IsSome, IfSome, All, List, [], ◌∷◌, ◌++◌, length, map, drop, replicate, Option, None, Some, is_some}
use Rattle.std.specs.Prelude.{slice_index_or, slice_get, zero, nat_eq}
use Rattle.std.proofs.Common.{inl, inr, sym, ap, subst, ◌∙◌, arith, length-append, length-take, length-drop, true≢false}
use Rattle.std.proofs.lemmas.Bool.{cases_Bool, le-leb}
use Rattle.std.proofs.lemmas.List.{length-replicate}
use Rattle.std.specs.List.{list_all, suffix_len}
use Rattle.kd_base.specs.Text.{padded, is_space}
use Rattle.kd_base.specs.ToolsLaws.{cases_option, some_is, true_both}
use Rattle.kdcs_types.specs.declared.call.Call.{Call}
use Rattle.kdcs_types.specs.declared.call.Code.{Code}
use Rattle.kdcs_types.specs.declared.call.Code.TheVariants.{Done}
use Rattle.kdcs_types.specs.declared.key.ServiceId.{ServiceId}
use Rattle.kdcs_types.specs.declared.run_state.Header.{Header}
use Rattle.kdcs_types.specs.declared.run_state.RunState.{RunState}
use Rattle.application_types.specs.declared.kdcdef_types.entry.TacEntry.{TacEntry}
use Rattle.application_types.specs.Generation.{tac_of, user_of, lterm_of}
use Rattle.application_types.specs.declared.unit_types.action.Action.{Action}
use Rattle.application_types.specs.declared.unit_types.action.Action.TheVariants as action
use Rattle.application_types.specs.declared.unit_types.action.HeaderName.{HeaderName}
use Rattle.application_types.specs.declared.unit_types.action.HeaderName.TheVariants.{Benid, Logter, Tacvg, Tacal, Crccc, Rlm}
use Rattle.application_types.specs.declared.unit_types.action.Operand.{Operand}
use Rattle.application_types.specs.declared.unit_types.action.Operand.TheVariants as read
use Rattle.application_types.specs.declared.unit_types.action.UnitStatement.{UnitStatement}
use Rattle.application_types.specs.declared.unit_types.unit.Field.{Field}
use Rattle.application_types.specs.UnitText.{UnitText, IsShortOperand, HasShortOperands, jump_of, operands_of, field_named, label_place, statement_at}
use Rattle.kd_base.specs.Text.{trim_end}
use Rattle.abstract_monitor.specs.Contents.{compared}
use Rattle.abstract_monitor.specs.Fields.{header_value, code_text, run_area, field_bytes, value_of, written, stored_in, stored}
use Rattle.abstract_monitor.specs.Ready.{KnowsLabel}
use Rattle.abstract_monitor.specs.Statement.{Meaning, Plain, Asks, Ends, jumped, branched, relates, calculates, gets_result, sum_of, difference_of, product_of, quotient_of, done_by, step, target_of}
use Rattle.abstract_monitor.specs.Statement.{next_target}
use Rattle.abstract_monitor.specs.Bytes.{Bytes}
use Rattle.abstract_monitor.specs.State.{Application, OpenTransaction}
use Rattle.abstract_monitor.specs.Endings.{is_asynchronous}
use Rattle.laws_of_states.specs.Applications.{IsFittedUnit, HasUnit, IsApplication}
use Rattle.laws_of_states.specs.Suits.{fits_content, has_kind_by}
use Rattle.laws_of_states.specs.Transactions.{CanGoOn}
use Rattle.laws_of_states.specs.OpenLaws.{has_short_operands, reads, StandsIn, RunsAreReady, OpensHaveUnits, OperandsAreShort}
use Rattle.abstract_monitor.specs.ContentsLaws.{length_in_digits}

-- ---- the unit

-- what holds of each TAC holds of one that has a kind
by_kind : (P : Type 0) (asynchronous : Bool) (o : Option TacEntry) → IfSome o (λ (t : TacEntry). P) → IsTrue (has_kind_by o asynchronous) → P
by_kind P asynchronous None has h = absurd (true≢false (sym h))
by_kind P asynchronous (Some t) has h = has

-- what holds of each entry holds of one that is there
if_there : {A : Type 0} (P : Type 0) (o : Option A) → IfSome o (λ (a : A). P) → IsSome o → P
if_there P None has h = absurd (true≢false (sym h))
if_there P (Some a) has h = has

pub unit_of_open : (app : Application) (id : ServiceId) (x : OpenTransaction) → IsApplication app → CanGoOn app.generation id x → HasUnit app x.current
unit_of_open app id x application can = by_kind (HasUnit app x.current) (is_asynchronous id) (tac_of app.generation x.current) (application.units x.current) can.current

pub fitted_unit : (app : Application) (id : ServiceId) (x : OpenTransaction) (unit : UnitText) → StandsIn app id x unit → IsFittedUnit app.generation.limits unit
fitted_unit app id x unit stands =
    let has = unit_of_open app id x stands.application stands.can in
    subst (IsFittedUnit app.generation.limits) (same has.0 unit (sym has.1 ∙ stands.in_unit)) has.2
  where
    same : (u v : UnitText) → Some u ≡ Some v → u ≡ v
    same u v e = cc

-- ---- ready to be stepped

knows : (unit : UnitText) (a : Action) → IfSome (jump_of a) (λ label. IsSome (label_place unit label)) → KnowsLabel unit a
knows unit (action.If x relation y label) h = h
knows unit (action.Jump label) h = h
knows unit _ h = tt

inside : (run : RunState) (kb spab : ℕ) (f : Field) → length run.kb ≡ kb → length run.spab ≡ spab → (b : Bool) → f.offset + f.length ≤ cond b spab kb → f.offset + f.length ≤ length (run_area run b)
inside run kb spab f k s true h = subst (λ n. f.offset + f.length ≤ n) (sym s) h
inside run kb spab f k s false h = subst (λ n. f.offset + f.length ≤ n) (sym k) h

pub runs_are_ready : RunsAreReady
runs_are_ready app id x unit stands =
    let can = stands.can in
    let fitted = fitted_unit app id x unit stands in
    record {
      place = can.place;
      read_length = can.read_length;
      count = can.time;
      fields = λ k d lt. let f = slice_index_or unit.fields k d in inside x.run app.generation.limits.kb app.generation.limits.spab f can.kb can.spab f.spab (fitted.fields k d lt);
      labels = λ k d lt. knows unit (slice_index_or unit.statements k d).action (fitted.labels k d lt);
    }

pub opens_have_units : OpensHaveUnits
opens_have_units app id x application can = ap (λ o. is_some o) (unit_of_open app id x application can).1

-- ---- operands

-- what a run reads is short
record IsShortRun (run : RunState) : Type 0 where
  kb : length run.kb ≤ 32767
  spab : length run.spab ≤ 32767
  benid : length run.header.benid ≤ 8
  logter : length run.header.logter ≤ 8
  tacvg : length run.header.tacvg ≤ 8
  tacal : length run.header.tacal ≤ 8

short_run : (app : Application) (id : ServiceId) (x : OpenTransaction) → IsApplication app → CanGoOn app.generation id x → IsShortRun x.run
short_run app id x application can =
    let g = app.generation in
    let names = application.names in
    let user = if_there (length x.user ≤ 8) (user_of g x.user) (names.users x.user) can.user in
    let lterm = if_there (length x.lterm ≤ 8) (lterm_of g x.lterm) (names.lterms x.lterm) can.lterm in
    let first = by_kind (length x.first ≤ 8) (is_asynchronous id) (tac_of g x.first) (names.tacs x.first) can.first in
    let current = by_kind (length x.current ≤ 8) (is_asynchronous id) (tac_of g x.current) (names.tacs x.current) can.current in
    record {
      kb = subst (λ n. n ≤ 32767) (sym can.kb) application.kb;
      spab = subst (λ n. n ≤ 32767) (sym can.spab) application.spab;
      benid = subst (λ (h : Header). length h.benid ≤ 8) (sym can.header) user;
      logter = subst (λ (h : Header). length h.logter ≤ 8) (sym can.header) lterm;
      tacvg = subst (λ (h : Header). length h.tacvg ≤ 8) (sym can.header) first;
      tacal = subst (λ (h : Header). length h.tacal ≤ 8) (sym can.header) current;
    }

length_padded : (name : List ℕ) → length name ≤ 8 → length (padded name) ≤ 32767
length_padded name h = omega (arith, length-append name (replicate (8 - length name) 32), length-replicate {A = ℕ} (8 - length name) 32)

length_code : (code : Code) → length (code_text code) ≤ 32767
length_code Done = omega arith
length_code _ = omega arith

length_header : (run : RunState) → IsShortRun run → (name : HeaderName) → length (header_value run name) ≤ 32767
length_header run short Benid = length_padded run.header.benid short.benid
length_header run short Logter = length_padded run.header.logter short.logter
length_header run short Tacvg = length_padded run.header.tacvg short.tacvg
length_header run short Tacal = length_padded run.header.tacal short.tacal
length_header run short Crccc = length_code run.code
length_header run short Rlm = omega (arith, length_in_digits 5 run.length)

length_area : (run : RunState) → IsShortRun run → (spab : Bool) → length (run_area run spab) ≤ 32767
length_area run short true = short.spab
length_area run short false = short.kb

length_content : (run : RunState) → IsShortRun run → (o : Option Field) → length (field_bytes run o) ≤ 32767
length_content run short None = omega arith
length_content run short (Some f) =
    let area = run_area run f.spab in
    omega (arith, length_area run short f.spab, length-drop f.offset area, length-take f.length (drop f.offset area))

length_trimmed : (bytes : List ℕ) → length (trim_end bytes) ≤ length bytes
unfolding trim_end
length_trimmed bytes = omega (arith, length-take (length bytes - suffix_len is_space bytes) bytes)

length_value : (unit : UnitText) (run : RunState) → IsShortRun run → (o : Operand) → IsShortOperand o → length (value_of unit run o) ≤ 32767
unfolding value_of
length_value unit run short (read.Field name) h = length_content run short (field_named unit name)
length_value unit run short (read.Literal bytes) h = h
length_value unit run short (read.Digits bytes) h = omega arith
length_value unit run short (read.Header name) h = length_header run short name
length_value unit run short (read.Trim name) h =
    omega (arith, length_trimmed (field_bytes run (field_named unit name)), length_content run short (field_named unit name))

-- ---- what a statement keeps and asks

written_header : (run : RunState) (spab : Bool) (at : ℕ) (bytes : List ℕ) → (written run spab at bytes).header ≡ run.header
written_header run true at bytes = refl
written_header run false at bytes = refl

stored_in_header : (run : RunState) (o : Option Field) (bytes : List ℕ) → (stored_in run o bytes).header ≡ run.header
stored_in_header run None bytes = refl
stored_in_header run (Some f) bytes = written_header run f.spab _ _

pub stored_header : (unit : UnitText) (run : RunState) (name bytes : List ℕ) → (stored unit run name bytes).header ≡ run.header
unfolding stored
stored_header unit run name bytes = stored_in_header run (field_named unit name) bytes

jumped_header : (run : RunState) (to : Option ℕ) → (jumped run to).header ≡ run.header
jumped_header run None = refl
jumped_header run (Some place) = refl

branched_header : (unit : UnitText) (run : RunState) (label : List ℕ) (b : Bool) → (branched unit run label b).header ≡ run.header
branched_header unit run label true = jumped_header run (label_place unit label)
branched_header unit run label false = refl

-- a call has short operands, and a target where it reads
pub record AskFits (target : Option Bytes) (call : Call) : Type 0 where
  pub short : IsTrue (has_short_operands call)
  pub target_there : IsTrue (reads call) → IsSome target

-- a plain statement keeps the header
abbrev pub StepFits : RunState → Option Bytes → Meaning → Type 0
StepFits run target (Plain after) = after.header ≡ run.header
StepFits run target (Asks call) = AskFits target call
StepFits run target (Ends cause) = Unit {0}

result_fits : (run : RunState) (f : Field) (o : Option Bytes) (target : Option Bytes) → StepFits run target (gets_result run f o)
result_fits run f None target = tt
result_fits run f (Some bytes) target = stored_in_header run (Some f) bytes

calculates_fits : (unit : UnitText) (run : RunState) (o : Option Field) (x : Operand) (calculation : ℕ → ℕ → Option ℕ) (target : Option Bytes) → StepFits run target (calculates unit run o x calculation)
calculates_fits unit run None x calculation target = refl
calculates_fits unit run (Some f) x calculation target = result_fits run f _ target

got_passes : (ss : List UnitStatement) (n : ℕ) (s : UnitStatement) → All (λ (t : UnitStatement). All IsShortOperand (operands_of t.action)) ss → slice_get ss n ≡ Some s → All IsShortOperand (operands_of s.action)
got_passes [] n s all e = absurd cc
got_passes (t ∷ ss) zero s all e = subst (λ (u : UnitStatement). All IsShortOperand (operands_of u.action)) (some_is t s e) (all 0 t (omega arith))
got_passes (t ∷ ss) (suc n) s all e = got_passes ss n s (λ k d lt. all (suc k) d (omega arith)) e

module _ (unit : UnitText) (run : RunState) (short : IsShortRun run) where
  value_fits : (o : Operand) → IsShortOperand o → IsTrue (fits_content (value_of unit run o))
  value_fits o h = le-leb (length (value_of unit run o)) 32767 (length_value unit run short o h)

  values_fit : (os : List Operand) → All IsShortOperand os → IsTrue (list_all fits_content (map (value_of unit run) os))
  values_fit [] all = refl
  values_fit (o ∷ os) all =
      true_both (fits_content (value_of unit run o)) (list_all fits_content (map (value_of unit run) os)) (value_fits o (all 0 o (omega arith)))
      (values_fit os (λ k d lt. all (suc k) d (omega arith)))

  asks_and_reads : (f : Bytes) (os : List Operand) (call : Call) → has_short_operands call ≡ list_all fits_content (map (value_of unit run) os) → All IsShortOperand os → AskFits (Some f) call
  asks_and_reads f os call e all = record { short = e ∙ values_fit os all; target_there = λ r. refl }

  asks : (target : Option Bytes) (os : List Operand) (call : Call) → reads call ≡ false → has_short_operands call ≡ list_all fits_content (map (value_of unit run) os) → All IsShortOperand os → AskFits target call
  asks target os call quiet e all = record { short = e ∙ values_fit os all; target_there = λ r. absurd (true≢false (sym r ∙ quiet)) }

  done_fits : (says : Action) → All IsShortOperand (operands_of says) → StepFits run (target_of says) (done_by unit run says)
  unfolding done_by
  done_fits (action.Move f x) all = stored_header unit run f (value_of unit run x)
  done_fits (action.Join f x y) all = stored_header unit run f (value_of unit run x ++ value_of unit run y)
  done_fits (action.Add f x) all = calculates_fits unit run (field_named unit f) x sum_of None
  done_fits (action.Sub f x) all = calculates_fits unit run (field_named unit f) x difference_of None
  done_fits (action.Mul f x) all = calculates_fits unit run (field_named unit f) x product_of None
  done_fits (action.Div f x) all = calculates_fits unit run (field_named unit f) x quotient_of None
  done_fits (action.If x relation y label) all = branched_header unit run label (relates relation (compared (value_of unit run x) (value_of unit run y)))
  done_fits (action.Jump label) all = jumped_header run (label_place unit label)
  done_fits action.Init all = record { short = refl; target_there = λ r. absurd (true≢false (sym r)) }
  done_fits (action.Mget f) all = record { short = refl; target_there = λ r. refl }
  done_fits (action.Mput x) all = asks None (x ∷ []) _ refl refl all
  done_fits (action.Fget f) all = record { short = refl; target_there = λ r. refl }
  done_fits (action.Fput to x) all = asks None (to ∷ x ∷ []) _ refl refl all
  done_fits (action.Dput to mode d h m s x) all = asks None (to ∷ d ∷ h ∷ m ∷ s ∷ x ∷ []) _ refl refl all
  done_fits (action.SgetGb name f) all = asks_and_reads f (name ∷ []) _ refl all
  done_fits (action.SputGb name x) all = asks None (name ∷ x ∷ []) _ refl refl all
  done_fits (action.SrelGb name) all = asks None (name ∷ []) _ refl refl all
  done_fits (action.SgetKp name f) all = asks_and_reads f (name ∷ []) _ refl all
  done_fits (action.SgetRl name f) all = asks_and_reads f (name ∷ []) _ refl all
  done_fits (action.SputMs name x) all = asks None (name ∷ x ∷ []) _ refl refl all
  done_fits (action.SrelLb name) all = asks None (name ∷ []) _ refl refl all
  done_fits (action.SgetUs name f) all = asks_and_reads f (name ∷ []) _ refl all
  done_fits (action.SputUs name x) all = asks None (name ∷ x ∷ []) _ refl refl all
  done_fits (action.Gtda name f) all = asks_and_reads f (name ∷ []) _ refl all
  done_fits (action.Ptda name x) all = asks None (name ∷ x ∷ []) _ refl refl all
  done_fits (action.UnlkGb name) all = asks None (name ∷ []) _ refl refl all
  done_fits (action.UnlkUs name) all = asks None (name ∷ []) _ refl refl all
  done_fits (action.UnlkDa name) all = asks None (name ∷ []) _ refl refl all
  done_fits (action.Pend variant None) all = record { short = refl; target_there = λ r. absurd (true≢false (sym r)) }
  done_fits (action.Pend variant (Some op)) all = asks None (op ∷ []) _ refl refl all

  step_fits : HasShortOperands unit → StepFits run (next_target unit run) (step unit run)
  unfolding step
  step_fits all =
      elim (cases_option (statement_at unit run.place)) [
        | inl none ↦ rw none tt
        | inr found ↦
            elim (cases_Bool (nat_eq run.count run.budget)) [
              | inl spent ↦ rw (found.1, spent) tt
              | inr left ↦ rw (found.1, left) (done_fits (found.0).action (statement_short run.place found.0 found.1))
            ]
      ]
    where
      statement_short : (place : ℕ) (s : UnitStatement) → statement_at unit place ≡ Some s → All IsShortOperand (operands_of s.action)
      statement_short zero s e = absurd cc
      statement_short (suc n) s e = got_passes unit.statements n s all e

pub next_fits : (app : Application) (id : ServiceId) (x : OpenTransaction) (unit : UnitText) → StandsIn app id x unit → StepFits x.run (next_target unit x.run) (step unit x.run)
next_fits app id x unit stands = step_fits unit x.run (short_run app id x stands.application stands.can) (fitted_unit app id x unit stands).literals

pub operands_are_short : OperandsAreShort
operands_are_short app id x unit call stands e = (subst (StepFits x.run (next_target unit x.run)) e (next_fits app id x unit stands)).short
