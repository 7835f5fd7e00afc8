-- The next statement of an open transaction, from the step of its unit.
use Rattle.std.specs.Prelude.{◌≡◌, Option, Some, Result, Ok, Err, IfOk}
use Rattle.std.proofs.Common.{ap, sym, subst, ◌∙◌}
use Rattle.kdcs_types.specs.declared.call.Call.{Call}
use Rattle.kdcs_types.specs.declared.call.Cause.{Cause}
use Rattle.kdcs_types.specs.declared.key.Area.{Area}
use Rattle.kdcs_types.specs.declared.key.ServiceId.{ServiceId}
use Rattle.kdcs_types.specs.Tables.{TableRows}
use Rattle.application_types.specs.UnitText.{UnitText}
use Rattle.abstract_monitor.specs.Statement.{Meaning, Plain, Asks, Ends, step}
use Rattle.service_parts.specs.Answers.{meaning_of}
use Rattle.service_parts.specs.declared.unit_step.stepped.Stepped.{Stepped}
use Rattle.service_parts.specs.declared.unit_step.stepped.Stepped.TheVariants as stepped
use Rattle.kdcs_calls.specs.Calling.{HoldersMatch, HoldsJust, performed_now}
use Rattle.kdcs_calls.specs.HoldingLaws.{match_holds, quiet_matches}
use Rattle.kdcs_types.specs.declared.service.Ending.TheVariants.{Broken}
use Rattle.abstract_monitor.specs.declared.answer.Happened.{Happened}
use Rattle.abstract_monitor.specs.declared.answer.Happened.TheVariants.{Went, Breaks}
use Rattle.abstract_monitor.specs.Calls.{Told}
use Rattle.abstract_monitor.specs.Endings.{is_asynchronous}
use Rattle.abstract_monitor.specs.Locks.{Locks, told_now}
use Rattle.abstract_monitor.specs.State.{Application, OpenTransaction as Transaction, unit_of}
use Rattle.abstract_monitor.specs.Statements.{Stated, area_in_unit, area_of, area_of_call, area_of_step, by_performed, by_step, in_unit, statement}
use Rattle.open_transaction.specs.declared.open.OpenTransaction.{OpenTransaction}
use Rattle.open_transaction.specs.Transactions.{transaction_of}
use Rattle.kdcs_calls.specs.Stating.{StepLeaves, wait_ended, waits_after, waits_by}
use Rattle.kdcs_calls.specs.StatingLaws.{left, means}

module _ (app : Application) (t : TableRows) (l : Locks) (id : ServiceId) (x : Transaction) where
  abbrev told_by : Option Area → Told
  told_by area = told_now l app.generation.limits.reswait t id area

  -- what the next statement does, as the system stands
  abbrev statement_now : Stated
  statement_now = statement app (told_by (area_of app x)) (is_asynchronous id) x

  module _ (unit : UnitText) (m : Meaning) (found : Some unit ≡ unit_of app x.current) (is : m ≡ step unit x.run) where
    stated : by_step app (told_by (area_of_step x m)) (is_asynchronous id) x unit m ≡ statement_now
    unfolding statement area_of
    stated =
        ap (λ (n : Meaning). by_step app (told_by (area_of_step x n)) (is_asynchronous id) x unit n) is
        ∙ ap (λ (o : Option UnitText). in_unit app (told_by (area_in_unit x o)) (is_asynchronous id) x o) found

    area_stated : area_of_step x m ≡ area_of app x
    unfolding area_of
    area_stated = ap (area_of_step x) is ∙ ap (area_in_unit x) found

-- ---- once the unit is stepped

module _ (app : Application) (t : TableRows) (l : Locks) (x y : OpenTransaction) (unit : UnitText) (found : Some unit ≡ unit_of app x.current) (s : Stepped) (meaning : meaning_of s y.run ≡ step unit x.run) (leaves : StepLeaves x y s) where
  abbrev now : Stated
  now = statement_now app t l x.id (transaction_of x)

  module _ (is : s ≡ stepped.Plain) where
    pub plain_exact : (transaction_of y, Went) ≡ now
    plain_exact =
        ap (λ (w : OpenTransaction). (transaction_of w, Went)) (left x y s leaves stepped.Plain is)
        ∙ stated app t l x.id (transaction_of x) unit (Plain y.run) found (means x y unit s meaning stepped.Plain is)

    pub plain_holders : HoldsJust l x.id (transaction_of x) → HoldersMatch l l x.id (transaction_of y)
    plain_holders holds = quiet_matches l x.id (transaction_of x) holds (transaction_of y) (ap (λ (w : OpenTransaction). w.touched) (left x y s leaves stepped.Plain is))

  module _ (cause : Cause) (is : s ≡ stepped.Ends cause) where
    pub ends_exact : (transaction_of y, Breaks (Broken cause)) ≡ now
    ends_exact =
        ap (λ (w : OpenTransaction). (transaction_of w, Breaks (Broken cause))) (left x y s leaves (stepped.Ends cause) is)
        ∙ stated app t l x.id (transaction_of x) unit (Ends cause) found (means x y unit s meaning (stepped.Ends cause) is)

    pub ends_holders : HoldsJust l x.id (transaction_of x) → HoldersMatch l l x.id (transaction_of y)
    ends_holders holds = quiet_matches l x.id (transaction_of x) holds (transaction_of y) (ap (λ (w : OpenTransaction). w.touched) (left x y s leaves (stepped.Ends cause) is))

  module _ (call : Call) (is : s ≡ stepped.Asks call) where
    pub asks_exact : {E : Type 0} (z : Transaction) (r : Result Happened E)
        → IfOk r (λ (h : Happened). (z, h) ≡ by_performed app (is_asynchronous y.id) unit (performed_now app.generation t l y.id (transaction_of y) call))
        → IfOk r (λ (h : Happened). (z, h) ≡ now)
    asks_exact z (Ok h) e =
        e
        ∙ ap (λ (w : OpenTransaction). by_performed app (is_asynchronous w.id) unit (performed_now app.generation t l w.id (transaction_of w) call)) (left x y s leaves (stepped.Asks call) is)
        ∙ stated app t l x.id (transaction_of x) unit (Asks call) found (means x y unit s meaning (stepped.Asks call) is)
    asks_exact z (Err e) is_none = tt

    pub asks_waits : {E : Type 0} (m : Locks) (r : Result Happened E)
        → IfOk r (λ (h : Happened). (wait_ended m y.id h).waits ≡ waits_by l y.id t.clock (area_of_call (transaction_of y) call) h)
        → IfOk r (λ (h : Happened). (wait_ended m x.id h).waits ≡ waits_after app t l x.id (transaction_of x) h)
    asks_waits m (Ok h) e =
        subst (λ (area : Option Area). (wait_ended m x.id h).waits ≡ waits_by l x.id t.clock area h)
        (area_stated app t l x.id (transaction_of x) unit (Asks call) found (means x y unit s meaning (stepped.Asks call) is))
        (subst (λ (w : OpenTransaction). (wait_ended m w.id h).waits ≡ waits_by l w.id t.clock (area_of_call (transaction_of w) call) h) (left x y s leaves (stepped.Asks call) is) e)
    asks_waits m (Err e) is_none = tt

-- the end of a wait moves no area
ended_match : (l m : Locks) (id : ServiceId) (y : Transaction) (h : Happened) → HoldersMatch l m id y → HoldersMatch l (wait_ended m id h) id y
ended_match l m id y Went matching = matching
ended_match l m id y _ matching = matching

pub ended_holds : (l m new : Locks) (id i : ServiceId) (y : Transaction) (h : Happened) → i ≡ id → HoldersMatch l m id y → new ≡ wait_ended m i h → HoldsJust new id y
ended_holds l m new id i y h same matching e =
    match_holds l new id y (subst (λ (k : Locks). HoldersMatch l k id y) (sym (e ∙ ap (λ (k : ServiceId). wait_ended m k h) same)) (ended_match l m id y h matching))
