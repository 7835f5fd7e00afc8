-- A statement of a service in a task, by the parts and in their state.
use Rattle.std.specs.Prelude.{◌≡◌, refl, ◌+◌, ◌≤◌, ◌<◌, ◌^◌, ℕ, List, Option, Some, None, option_map}
use Rattle.std.proofs.Common.{ap, sym, subst, ◌∙◌, arith}
use Rattle.std.specs.FinMap.{find}
use Rattle.kd_base.specs.ToolsLaws.{some_is}
use Rattle.kdcs_types.specs.declared.key.Area.{Area}
use Rattle.kdcs_types.specs.declared.key.ServiceId.{ServiceId}
use Rattle.kdcs_types.specs.Keys.{id_cmp}
use Rattle.kdcs_calls.specs.Calling.{HoldersMatch, HoldsJust}
use Rattle.kd_base.specs.MappedLaws.{find_mapped}
use Rattle.open_transaction.specs.Transactions.{Boxed, boxed_transaction}
use Rattle.application_types.specs.Fitted.{FittedUnits}
use Rattle.service_ends.specs.Schedule.{Schedule}
use Rattle.abstract_monitor.specs.declared.answer.Happened.{Happened}
use Rattle.abstract_monitor.specs.declared.answer.Happened.TheVariants.{Went, Queued, Waited, Held, Settles, Breaks, Returns}
use Rattle.abstract_monitor.specs.Calls.{Told}
use Rattle.abstract_monitor.specs.Endings.{is_asynchronous}
use Rattle.abstract_monitor.specs.Locks.{Locks, Waiting, told_now, touched_by}
use Rattle.abstract_monitor.specs.Picks.{class_of}
use Rattle.abstract_monitor.specs.State.{OpenTransaction}
use Rattle.abstract_monitor.specs.Statements.{Stated, area_of, statement}
use Rattle.abstract_monitor.specs.Turns.{statement_now, told_here, with_open}
use Rattle.laws_of_states.specs.Keeping.{HasFacts}
use Rattle.laws_of_states.specs.Transactions.{CanGoOn}
use Rattle.laws_of_states.specs.PointLaws.{AreSound}
use Rattle.kdcs_calls.specs.Stating.{waits_after}
use Rattle.service_ends.specs.declared.core_state.parts.MonitorParts.{MonitorParts}
use Rattle.service_ends.specs.ChangesLaws.{each_found}
use Rattle.service_ends.specs.KeptLaws.{with_schedule}
use Rattle.service_ends.specs.Standing.{IsIndexed, IsOwned, active_of, state_of}
use Rattle.service_ends.specs.Whole.{app_of}
use Rattle.monitor_core.specs.LockingLaws.{same_holder, same_told}
use Rattle.monitor_core.specs.SteppingLaws.{ChangesNone, changes_none, stepped, stepped_indexed, stepped_state, unchanged_active}
use Rattle.monitor_core.specs.Turning.{IsHeldBy, state_then}

pub sound_tables : (p : MonitorParts) → HasFacts (app_of p) (state_of p) → AreSound p.generation p.tables
sound_tables p facts = record { order = facts.1.order; suits = facts.1.suits; rows = facts.1.rows }

-- the transaction of the service, as the parts have it
module _ (p : MonitorParts) (id : ServiceId) (transaction : Boxed) (h : IsIndexed p) (facts : HasFacts (app_of p) (state_of p)) (there : Some transaction ≡ find id_cmp id p.active) where
  pub owned : IsOwned p.generation p.steps (id, transaction)
  owned = subst (λ (o : Option Boxed). Rattle.std.specs.Prelude.IfSome o (λ (w : Boxed). IsOwned p.generation p.steps (id, w))) (sym there) (each_found (IsOwned p.generation p.steps) id p.active h.owned)

  pub is_there : find id_cmp id (state_of p).active ≡ Some (boxed_transaction transaction)
  is_there = find_mapped id_cmp boxed_transaction id p.active ∙ ap (option_map boxed_transaction) (sym there)

  pub can_go_on : CanGoOn p.generation transaction.value.id (boxed_transaction transaction)
  can_go_on = subst (λ i. CanGoOn p.generation i (boxed_transaction transaction)) (sym owned.id) (facts.1.transactions id (boxed_transaction transaction) is_there)

  pub holds_just : HoldsJust p.locks transaction.value.id (boxed_transaction transaction)
  holds_just = subst (λ i. HoldsJust p.locks i (boxed_transaction transaction)) (sym owned.id) (λ area. h.locks id area ∙ ap (λ (o : Option OpenTransaction). touched_by o area) is_there)

  pub fits_count : p.steps + 1 < 2 ^ 64 → transaction.value.statements + 1 < 2 ^ 64
  fits_count le = let a : transaction.value.statements ≤ p.steps = owned.counted in omega arith

  told_same : told_now p.locks p.generation.limits.reswait p.tables id (area_of (app_of p) (boxed_transaction transaction)) ≡ told_here (app_of p) (state_of p) id (boxed_transaction transaction)
  told_same =
      same_told p.locks _ (record { holders = same_holder p.locks (active_of p.active) h.locks facts.0.active facts.0.exclusive; waits = refl }) p.generation.limits.reswait p.tables id (area_of (app_of p) (boxed_transaction transaction))

  abbrev here_for : ServiceId → Stated
  here_for i = statement (app_of p) (told_now p.locks p.generation.limits.reswait p.tables i (area_of (app_of p) (boxed_transaction transaction))) (is_asynchronous i) (boxed_transaction transaction)

  -- the statement is that of the state
  pub stated_so : (r : Stated) → r ≡ here_for transaction.value.id → statement_now (app_of p) (state_of p) id (boxed_transaction transaction) ≡ r
  stated_so r e = sym (e ∙ ap here_for owned.id ∙ ap (λ (v : Told). statement (app_of p) v (is_asynchronous id) (boxed_transaction transaction)) told_same)

-- ---- the state after it

module _ (p : MonitorParts) (task : ℕ) (id : ServiceId) (transaction after : Boxed) (h : IsIndexed p) (facts : HasFacts (app_of p) (state_of p)) (at : IsHeldBy (state_of p) task id)
    (there : Some transaction ≡ find id_cmp id p.active) (locks : Locks) (now : Happened)
    (does : (boxed_transaction after, now) ≡ here_for p id transaction h facts there transaction.value.id) where
  abbrev x : OpenTransaction
  x = boxed_transaction transaction

  done : statement_now (app_of p) (state_of p) id x ≡ (boxed_transaction after, now)
  done = stated_so p id transaction h facts there (boxed_transaction after, now) does

  open_at : find id_cmp id (state_of p).active ≡ Some x
  open_at = is_there p id transaction h facts there

  same_then : ChangesNone x (boxed_transaction after) now
  same_then = subst (λ (r : Stated). ChangesNone x r.0 r.1) done (changes_none (app_of p) (is_asynchronous id) (told_here (app_of p) (state_of p) id x) x)

  -- with the waits as they are then
  with_waits : boxed_transaction after ≡ x → (waits : List (ServiceId × Waiting)) → locks.waits ≡ waits → record (with_open (state_of p) id (boxed_transaction after)) { waits = locks.waits } ≡ record (state_of p) { waits = waits }
  with_waits same waits e = λ i. record (state_of p) { active = unchanged_active p task id x h facts.0 at open_at after locks now done same i; waits = e i }

  by_then : (n : Happened) → ChangesNone x (boxed_transaction after) n → locks.waits ≡ waits_after (app_of p) p.tables p.locks id x n
      → record (with_open (state_of p) id (boxed_transaction after)) { waits = locks.waits } ≡ state_then (app_of p) (state_of p) id x (boxed_transaction after) n
  by_then Went none e = ap (λ (w : List (ServiceId × Waiting)). record (with_open (state_of p) id (boxed_transaction after)) { waits = w }) e
  by_then Queued none e = ap (λ (w : List (ServiceId × Waiting)). record (with_open (state_of p) id (boxed_transaction after)) { waits = w }) e
  by_then Waited none e = by (area_of (app_of p) x) e
    where
      by : (o : Option Area) → locks.waits ≡ Rattle.kdcs_calls.specs.Calling.waits_for_area p.locks id p.tables.clock o
          → record (with_open (state_of p) id (boxed_transaction after)) { waits = locks.waits } ≡ Rattle.abstract_monitor.specs.Turns.waiting_for (state_of p) id o
      by None f = with_waits none _ f
      by (Some area) f = with_waits none _ f
  by_then (Held tac) none e = with_waits none _ e
  by_then (Settles o) none e = with_waits none _ e
  by_then (Breaks ending) none e = with_waits none _ e
  by_then Returns none e = with_waits none _ e

  pub then_state : (class : ℕ) → locks.waits ≡ waits_after (app_of p) p.tables p.locks transaction.value.id x now
      → state_of (stepped p task id after locks class) ≡ state_then (app_of p) (state_of p) id x (boxed_transaction after) now
  then_state class e =
      stepped_state p task id x h facts.0 at open_at after locks now done class
      ∙ by_then now same_then (e ∙ ap (λ i. waits_after (app_of p) p.tables p.locks i x now) (owned p id transaction h facts there).id)

  pub then_indexed : (class : ℕ) → class ≡ class_of p.generation after.value.current → HoldersMatch p.locks locks transaction.value.id (boxed_transaction after) → after.value.id ≡ transaction.value.id → after.value.messages.nb ≡ transaction.value.messages.nb
      → after.value.statements ≤ transaction.value.statements + 1 → IsIndexed (stepped p task id after locks class)
  then_indexed class e matching same nb counted =
      let own = owned p id transaction h facts there in
      stepped_indexed p task id x h facts.0 at open_at after locks now done class e
      (subst (λ i. HoldersMatch p.locks locks i (boxed_transaction after)) own.id matching)
      record { id = same ∙ own.id; nb = nb ∙ own.nb; counted = let a : transaction.value.statements ≤ p.steps = own.counted in omega (arith, a, counted) }

  pub then_exact : (y : OpenTransaction) → find id_cmp id (state_of p).active ≡ Some y → now ≡ (statement_now (app_of p) (state_of p) id y).1
  then_exact y e = sym (ap (λ (z : OpenTransaction). (statement_now (app_of p) (state_of p) id z).1) (some_is y x (sym e ∙ open_at)) ∙ ap (λ (r : Stated). r.1) done)

  pub then_for : (class : ℕ) → locks.waits ≡ waits_after (app_of p) p.tables p.locks transaction.value.id x now → (y : OpenTransaction) → find id_cmp id (state_of p).active ≡ Some y
      → state_of (stepped p task id after locks class) ≡ state_then (app_of p) (state_of p) id y (statement_now (app_of p) (state_of p) id y).0 now
  then_for class e y f =
      then_state class e
      ∙ sym (ap (λ (z : OpenTransaction). state_then (app_of p) (state_of p) id z (statement_now (app_of p) (state_of p) id z).0 now) (some_is y x (sym f ∙ open_at))
      ∙ ap (λ (r : Stated). state_then (app_of p) (state_of p) id x r.0 now) done)

-- ---- another schedule that is the same

pub state_with : (q : MonitorParts) (schedule : Schedule) → schedule ≡ q.scheduler → state_of (with_schedule q schedule) ≡ state_of q
state_with q schedule e = ap (λ (s : Schedule). state_of (with_schedule q s)) e

pub indexed_with : (q : MonitorParts) (schedule : Schedule) → schedule ≡ q.scheduler → IsIndexed q → IsIndexed (with_schedule q schedule)
indexed_with q schedule e h = subst (λ (s : Schedule). IsIndexed (with_schedule q s)) (sym e) h

-- and other units that are the same
pub indexed_of : (q : MonitorParts) (units : FittedUnits) → units ≡ q.units → IsIndexed q → IsIndexed (record q { units = units })
indexed_of q units e h = subst (λ (u : FittedUnits). IsIndexed (record q { units = u })) (sym e) h
