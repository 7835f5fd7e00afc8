-- A statement keeps the first TAC of its service; and a PEND FC that goes through is one that the rule does not deny.
use Rattle.std.specs.Prelude.{◌≡◌, refl, Bool, true, false, ◌||◌, not, Option, Some, None, Result, Ok, Err}
use Rattle.std.proofs.Common.{sym, ap, ◌∙◌, subst}
use Rattle.kd_base.specs.ToolsLaws.{some_is}
use Rattle.kd_base.specs.declared.words.Variant.{Variant}
use Rattle.kd_base.specs.declared.words.Variant.TheVariants.{Kp, Pr, Pa, Re, Sp, Fi, Fc, Fr, Er, Rs}
use Rattle.kdcs_types.specs.declared.call.Call.{Call}
use Rattle.kdcs_types.specs.declared.call.Call.TheVariants.{Init, Pend}
use Rattle.kdcs_types.specs.declared.call.Cause.{Cause}
use Rattle.kdcs_types.specs.declared.key.Area.{Area}
use Rattle.application_types.specs.Generation.{Generated, tac_of}
use Rattle.application_types.specs.UnitText.{UnitText}
use Rattle.abstract_monitor.specs.Statement.{Meaning, Plain, Asks, Ends, step}
use Rattle.abstract_monitor.specs.declared.access.Denial.{Denial}
use Rattle.abstract_monitor.specs.declared.answer.Called.{Called}
use Rattle.abstract_monitor.specs.declared.answer.Called.TheVariants.{Replied, Waits, Abnormal, Pends}
use Rattle.abstract_monitor.specs.declared.answer.Happened.{Happened}
use Rattle.abstract_monitor.specs.declared.answer.Happened.TheVariants.{Went, Queued, Waited, Held, Settles, Breaks, Returns}
use Rattle.abstract_monitor.specs.declared.answer.LockAnswer.{LockAnswer}
use Rattle.abstract_monitor.specs.declared.answer.LockAnswer.TheVariants.{Granted, Wait, Busy, Deadlock}
use Rattle.abstract_monitor.specs.declared.outcome.Outcome.{Outcome}
use Rattle.abstract_monitor.specs.declared.outcome.Outcome.TheVariants.{Stay, Queue, Hold, Wait as WaitOutcome, Point, Finish, Follow, Break, Back}
use Rattle.abstract_monitor.specs.Bytes.{Bytes}
use Rattle.abstract_monitor.specs.Access.{denial_of}
use Rattle.abstract_monitor.specs.Outcomes.{fits_follow_up, goes_by, is_for_kind, name_or_empty, needs_message, pend_by, pend_outcome, takes_follow_up}
use Rattle.abstract_monitor.specs.State.{Application, OpenTransaction, unit_of}
use Rattle.abstract_monitor.specs.Calls.{Told, Performed, touches, touching, answer_by, on_answer, has_message, name_by, unless_denied, follow_up_entry, pended, called, first_call, called_by}
use Rattle.abstract_monitor.specs.Calls.{call_outcome}
use Rattle.abstract_monitor.specs.Statements.{Stated, area_of, by_call, by_performed, by_step, in_unit, statement}
use Rattle.laws_of_states.specs.KeptLaws.{PendsNot, called_kept}
use Rattle.laws_of_states.specs.ShapesLaws.{IsAnswered, AnsweredBy, StatementLeaves, StatementLooks, StatementAlone, StatementLocks, StatementUnlocks, statement_looks}

-- ---- the first TAC

module _ (app : Application) (asynchronous : Bool) (x : OpenTransaction) where
  -- the statement leaves the first TAC
  abbrev Keeps : Stated → Type 0
  Keeps r = r.0.first ≡ x.first

  answered_keeps : (unit : UnitText) (z : OpenTransaction) (p : Performed) → z.first ≡ x.first → IsAnswered z p → Keeps (by_performed app asynchronous unit p)
  answered_keeps unit z p same = by p.1
    where
      by : (c : Called) → AnsweredBy z p.0 c → Keeps (by_call app asynchronous unit p.0 c)
      by (Replied reply) q = q.first ∙ same
      by Waits q = absurd q
      by (Abnormal cause) q = absurd q
      by (Pends variant o) q = absurd q

  touching_keeps : (area : Area) (b : Bool) → (touching x area b).first ≡ x.first
  touching_keeps area true = refl
  touching_keeps area false = refl

  answer_keeps : (unit : UnitText) (area : Area) (go : OpenTransaction → Performed) → ((y : OpenTransaction) → IsAnswered y (go y)) → (a : LockAnswer) → Keeps (by_performed app asynchronous unit (on_answer x area a go))
  answer_keeps unit area go all Granted =
      let y = touching x area (touches x area) in
      answered_keeps unit y (go y) (touching_keeps area (touches x area)) (all y)
  answer_keeps unit area go all Wait = refl
  answer_keeps unit area go all Busy = refl
  answer_keeps unit area go all Deadlock = refl

  leaves_keep : (r : Stated) → StatementLeaves x r.0 r.1 → Keeps r
  leaves_keep r = by r.1
    where
      by : (h : Happened) → StatementLeaves x r.0 h → r.0.first ≡ x.first
      by Went l = l.first
      by Queued l = l.first
      by Waited l = absurd l
      by (Held tac) l = ap (λ (y : OpenTransaction). y.first) l
      by (Settles o) l = ap (λ (y : OpenTransaction). y.first) l
      by (Breaks ending) l = ap (λ (y : OpenTransaction). y.first) l
      by Returns l = ap (λ (y : OpenTransaction). y.first) l

  pub first_stays : (v : Told) → Keeps (statement app v asynchronous x)
  first_stays v = by (statement_looks app asynchronous x)
    where
      by : StatementLooks app asynchronous x (area_of app x) (λ w. statement app w asynchronous x) → Keeps (statement app v asynchronous x)
      by (StatementAlone r same leaves) = subst Keeps (sym (same v)) (leaves_keep r leaves)
      by (StatementLocks unit area go of same all) = subst Keeps (sym (same v)) (answer_keeps unit area (go v.content) (all v.content) (answer_by v (touches x area)))
      by (StatementUnlocks unit area of held same) = subst Keeps (sym (same v)) refl

-- ---- PEND FC

-- the follow-up of a PEND FC that goes through; no other outcome is asked for one
abbrev followed_by : Result Outcome Cause → Option Bytes
followed_by (Ok (Follow tac)) = Some tac
followed_by _ = None

module _ (g : Generated) (x : OpenTransaction) (tac : Bytes) where
  abbrev Allowed : Type 0
  Allowed = denial_of g x.user x.lterm tac ≡ None

  -- the outcomes of the other variants
  other : (a b c : Bool) (o : Outcome) → followed_by (Ok o) ≡ None → followed_by (pend_by a b c o) ≡ Some tac → Allowed
  other false b c o none e = absurd cc
  other true false c o none e = absurd cc
  other true true false o none e = absurd cc
  other true true true o none e = absurd (no none e)
    where
      no : {l : Option Bytes} → l ≡ None → l ≡ Some tac → ⊥
      no f h = cc

  by_follow : (b c : Bool) (n : Bytes) → denial_of g x.user x.lterm n ≡ None → followed_by (pend_by true b c (Follow n)) ≡ Some tac → Allowed
  by_follow false c n none e = absurd cc
  by_follow true false n none e = absurd cc
  by_follow true true n none e = subst (λ (t : Bytes). denial_of g x.user x.lterm t ≡ None) (some_is n tac e) none

  followed : (has : Bool) (name : Option Bytes) → followed_by (pend_outcome false Fc has (follow_up_entry (denial_of g) g x Fc name) name) ≡ Some tac → Allowed
  unfolding pend_outcome
  followed has None e = absurd cc
  followed has (Some n) e = by (denial_of g x.user x.lterm n) refl e
    where
      by : (o : Option Denial) → denial_of g x.user x.lterm n ≡ o
          → followed_by (pend_by true (fits_follow_up false Fc (unless_denied o (tac_of g n)) (Some n)) (not (needs_message false Fc) || has) (Follow n)) ≡ Some tac → Allowed
      by None none h = by_follow (fits_follow_up false Fc (tac_of g n) (Some n)) (not (needs_message false Fc) || has) n none h
      by (Some why) denied h = absurd cc

  others : (asynchronous : Bool) (variant : Variant) (has : Bool) (name : Option Bytes) → followed_by (Ok (goes_by variant (name_or_empty name))) ≡ None
      → followed_by (pend_outcome asynchronous variant has (follow_up_entry (denial_of g) g x variant name) name) ≡ Some tac → Allowed
  unfolding pend_outcome
  others asynchronous variant has name none e =
      other (is_for_kind asynchronous variant) (not (takes_follow_up variant) || fits_follow_up asynchronous variant (follow_up_entry (denial_of g) g x variant name) name) (not (needs_message asynchronous variant) || has)
      (goes_by variant (name_or_empty name)) none e

  pend_allowed : (asynchronous : Bool) (variant : Variant) (has : Bool) (name : Option Bytes)
      → followed_by (pend_outcome asynchronous variant has (follow_up_entry (denial_of g) g x variant name) name) ≡ Some tac → Allowed
  unfolding pend_outcome
  pend_allowed true Fc has name e = absurd cc
  pend_allowed false Fc has name e = followed has name e
  pend_allowed asynchronous Kp has name e = others asynchronous Kp has name refl e
  pend_allowed asynchronous Pr has name e = others asynchronous Pr has name refl e
  pend_allowed asynchronous Pa has name e = others asynchronous Pa has name refl e
  pend_allowed asynchronous Re has name e = others asynchronous Re has name refl e
  pend_allowed asynchronous Sp has name e = others asynchronous Sp has name refl e
  pend_allowed asynchronous Fi has name e = others asynchronous Fi has name refl e
  pend_allowed asynchronous Fr has name e = others asynchronous Fr has name refl e
  pend_allowed asynchronous Er has name e = others asynchronous Er has name refl e
  pend_allowed asynchronous Rs has name e = others asynchronous Rs has name refl e

-- what a statement follows up by PEND FC
abbrev follows : Happened → Option Bytes
follows (Settles (Follow tac)) = Some tac
follows _ = None

module _ (app : Application) (asynchronous : Bool) (x : OpenTransaction) (tac : Bytes) where
  abbrev Does : Stated → Type 0
  Does r = follows r.1 ≡ Some tac → denial_of app.generation x.user x.lterm tac ≡ None

  outcome_does : (variant : Variant) (r : Result Outcome Cause) (unit : UnitText) → (followed_by r ≡ Some tac → denial_of app.generation x.user x.lterm tac ≡ None) → Does (by_performed app asynchronous unit (pended x variant r))
  outcome_does variant (Ok (Stay t)) unit h e = absurd cc
  outcome_does variant (Ok (Queue t)) unit h e = absurd cc
  outcome_does variant (Ok (Hold t)) unit h e = absurd cc
  outcome_does variant (Ok (WaitOutcome t)) unit h e = absurd cc
  outcome_does variant (Ok (Point t)) unit h e = absurd cc
  outcome_does variant (Ok (Follow t)) unit h e = h e
  outcome_does variant (Ok Finish) unit h e = absurd cc
  outcome_does variant (Ok Break) unit h e = absurd cc
  outcome_does variant (Ok Back) unit h e = absurd cc
  outcome_does variant (Err cause) unit h e = absurd cc

  reply_does : (unit : UnitText) (p : Performed) → PendsNot p.1 → Does (by_performed app asynchronous unit p)
  reply_does unit p = by p.1
    where
      by : (c : Called) → PendsNot c → Does (by_call app asynchronous unit p.0 c)
      by (Replied reply) not_so e = absurd cc
      by Waits not_so e = absurd cc
      by (Abnormal cause) not_so e = absurd cc
      by (Pends variant o) not_so e = absurd not_so

  called_does : (v : Told) (unit : UnitText) (call : Call) → Does (by_performed app asynchronous unit (called app.generation v asynchronous x call))
  unfolding called
  called_does v unit (Pend variant op) =
      outcome_does variant (pend_outcome asynchronous variant (has_message x.parts) (follow_up_entry (denial_of app.generation) app.generation x variant (name_by op)) (name_by op)) unit
      (pend_allowed app.generation x tac asynchronous variant (has_message x.parts) (name_by op))
  called_does v unit call = reply_does unit (called app.generation v asynchronous x call) (called_kept app.generation v asynchronous x call tt).pends_not

  first_does : (unit : UnitText) (call : Call) → Does (by_performed app asynchronous unit (first_call x call))
  first_does unit Init e = absurd cc
  first_does unit _ e = absurd cc

  call_does : (v : Told) (unit : UnitText) (call : Call) → Does (by_performed app asynchronous unit (call_outcome app.generation v asynchronous x call))
  unfolding call_outcome
  call_does v unit call = by x.inited
    where
      by : (b : Bool) → Does (by_performed app asynchronous unit (called_by app.generation v asynchronous x call b))
      by true = called_does v unit call
      by false = first_does unit call

  step_does : (v : Told) (unit : UnitText) (m : Meaning) → Does (by_step app v asynchronous x unit m)
  step_does v unit (Plain after) e = absurd cc
  step_does v unit (Ends cause) e = absurd cc
  step_does v unit (Asks call) e = call_does v unit call e

  pub follow_allowed : (v : Told) → (statement app v asynchronous x).1 ≡ Settles (Follow tac) → denial_of app.generation x.user x.lterm tac ≡ None
  unfolding statement
  follow_allowed v e = by (unit_of app x.current) (ap follows e)
    where
      by : (o : Option UnitText) → Does (in_unit app v asynchronous x o)
      by None h = absurd cc
      by (Some unit) h = step_does v unit (step unit x.run) h
