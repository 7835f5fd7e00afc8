-- A statement that is a call: what its answer finds, and what becomes of the transaction and of the locks.
use Rattle.std.specs.Prelude.{◌≡◌, refl, ◌≤◌, ◌+◌, Bool, List, None, Result, Ok, Err, IfOk, OnOk}
use Rattle.std.proofs.Common.{ap, sym, subst, ◌∙◌, arith}
use Rattle.kd_base.specs.declared.words.Variant.{Variant}
use Rattle.kdcs_types.specs.declared.call.Call.{Call}
use Rattle.kdcs_types.specs.declared.key.Area.{Area}
use Rattle.kdcs_types.specs.declared.key.ServiceId.{ServiceId}
use Rattle.kdcs_types.specs.Tables.{TableRows}
use Rattle.application_types.specs.Generation.{Generated}
use Rattle.application_types.specs.UnitText.{UnitText}
use Rattle.abstract_monitor.specs.Ready.{IsReady}
use Rattle.abstract_monitor.specs.Statement.{Asks, step}
use Rattle.kdcs_calls.specs.Calling.{CanRead, HoldersMatch, performed_now}
use Rattle.abstract_monitor.specs.declared.answer.Called.{Called}
use Rattle.abstract_monitor.specs.declared.answer.Called.TheVariants.{Pends}
use Rattle.abstract_monitor.specs.declared.answer.Happened.{Happened}
use Rattle.abstract_monitor.specs.declared.outcome.Outcome.{Outcome}
use Rattle.abstract_monitor.specs.declared.outcome.Outcome.TheVariants.{Stay}
use Rattle.abstract_monitor.specs.Endings.{followed, is_asynchronous}
use Rattle.abstract_monitor.specs.Locks.{Locks, told_now}
use Rattle.abstract_monitor.specs.State.{Application, OpenTransaction as Transaction}
use Rattle.abstract_monitor.specs.Statements.{area_of_call, by_call, by_outcome}
use Rattle.laws_of_states.specs.OpenLaws.{CallKeeps, CalledFits, StandsIn}
use Rattle.laws_of_states.specs.ReadyLaws.{runs_are_ready}
use Rattle.laws_of_states.specs.StatedLaws.{calls_keep}
use Rattle.abstract_monitor.specs.Bytes.{Bytes}
use Rattle.open_transaction.specs.Transactions.{followed_with}
use Rattle.kdcs_calls.specs.Stating.{ContentsFit}
use Rattle.kdcs_calls.proofs.service_statement.Reading.{can_read, told_short}

-- ---- what the answer finds

module _ (app : Application) (t : TableRows) (l : Locks) (id : ServiceId) (x : Transaction) (unit : UnitText) (call : Call) (stands : StandsIn app id x unit) (fits : ContentsFit t) where
  pub reads : CanRead t x
  reads = can_read app.generation t id x (omega (arith, stands.application.nb)) fits stands.can

  abbrev performed : Transaction × Called
  performed = performed_now app.generation t l id x call

  module _ (asks : step unit x.run ≡ Asks call) (y : Transaction) (c : Called) (exact : (y, c) ≡ performed) where
    kept : CallKeeps app.generation id x unit (y, c)
    kept =
        subst (CallKeeps app.generation id x unit) (sym exact)
        (calls_keep app id x unit (told_now l app.generation.limits.reswait t id (area_of_call x call)) call stands (told_short l app.generation.limits.reswait t id (area_of_call x call) fits) asks)

    pub ready_then : IsReady unit y.run
    ready_then = subst (IsReady unit) (sym kept.same_run) (runs_are_ready app id x unit stands)

    pub fits_then : (i : ServiceId) → i ≡ id → CalledFits app.generation (is_asynchronous i) unit y.run c
    fits_then i same = subst (λ (k : ServiceId). CalledFits app.generation (is_asynchronous k) unit y.run c) (sym same) kept.fits

-- a further unit run counts one statement
pub followed_counts : (g : Generated) (asynchronous : Bool) (x y : Transaction) (tac : Bytes) → y ≡ followed_with g asynchronous x tac None → y.statements ≤ x.statements + 1
unfolding followed
followed_counts g asynchronous x y tac e = let counts : y.statements ≡ x.statements + 1 = ap (λ (w : Transaction). w.statements) e in omega arith

-- ---- what becomes of the locks

module _ (app : Application) (asynchronous : Bool) (unit : UnitText) (y : Transaction) where
  touched_by_outcome : (variant : Variant) (o : Outcome) → (by_outcome app asynchronous y variant o).0.touched ≡ y.touched
  unfolding followed
  touched_by_outcome variant (Stay tac) = refl
  touched_by_outcome variant _ = refl

  touched_by_call : (c : Called) → (by_call app asynchronous unit y c).0.touched ≡ y.touched
  touched_by_call (Pends variant o) = touched_by_outcome variant o
  touched_by_call _ = refl

  -- what follows the call touches no other area
  holders_stay : (l m : Locks) (id : ServiceId) (z : Transaction) (h : Happened) (c : Called) → HoldersMatch l m id y → (z, h) ≡ by_call app asynchronous unit y c → HoldersMatch l m id z
  holders_stay l m id z h c matching e =
      subst (λ (held : List Area). HoldersMatch l m id (record z { touched = held }))
      (sym (ap (λ (s : Transaction × Happened). s.0.touched) e ∙ touched_by_call c)) matching

  pub holders_done : {E : Type 0} (l m : Locks) (id : ServiceId) (z : Transaction) (c : Called) (r : Result Happened E) → HoldersMatch l m id y
      → IfOk r (λ (h : Happened). (z, h) ≡ by_call app asynchronous unit y c) → OnOk r (HoldersMatch l m id z)
  holders_done l m id z c (Ok h) matching e = holders_stay l m id z h c matching e
  holders_done l m id z c (Err e) matching is = tt
