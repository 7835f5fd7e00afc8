-- What follows a statement of a service in a task, and that the parts stay whole.
use Rattle.std.specs.Prelude.{◌≡◌, refl, ◌+◌, ◌-◌, ◌≤◌, ◌<◌, ℕ, zero, suc, true, List, [], ◌∷◌, ◌++◌, length, map, Option, Some, None, is_some, slice_get, Result, Ok, Err, IfOk, OnOk}
use Rattle.std.proofs.Common.{ap, sym, subst, ◌∙◌, true≢false, arith}
use Rattle.std.proofs.lemmas.List.{length-map}
use Rattle.std.specs.FinMap.{find}
use Rattle.application_types.specs.Generation.{Generated}
use Rattle.application_types.specs.Statements.{IsWithin}
use Rattle.kdcs_types.specs.declared.key.Area.{Area}
use Rattle.kdcs_types.specs.declared.key.ServiceId.{ServiceId}
use Rattle.kdcs_types.specs.declared.key.ServiceId.TheVariants.{Dialogue, Asynchronous}
use Rattle.kdcs_types.specs.declared.service.Ending.{Ending}
use Rattle.kdcs_types.specs.Keys.{id_cmp}
use Rattle.application_types.specs.Fitted.{FittedUnits, IsFit}
use Rattle.service_ends.specs.Schedule.{IsTask, place_by, place_of, service_in}
use Rattle.abstract_monitor.specs.declared.answer.Happened.{Happened}
use Rattle.abstract_monitor.specs.declared.answer.Happened.TheVariants.{Went, Queued, Waited, Held, Settles, Breaks, Returns}
use Rattle.abstract_monitor.specs.declared.outcome.Outcome.{Outcome}
use Rattle.abstract_monitor.specs.Bytes.{Bytes}
use Rattle.abstract_monitor.specs.Picks.{Classed, pick}
use Rattle.abstract_monitor.specs.State.{Application, OpenTransaction, State}
use Rattle.abstract_monitor.specs.Statements.{area_of}
use Rattle.abstract_monitor.specs.Turns.{Turned, abnormal, back, happens, message_acts, message_sent, moved_to, settled, statement_now, took, turn_by, turn_of, unmoved, waiting_for, with_task}
use Rattle.abstract_monitor.specs.Turns.{without_wait, without_transaction, served}
use Rattle.laws_of_states.specs.Applications.{IsApplication}
use Rattle.laws_of_states.specs.Facts.{IsConsistent}
use Rattle.laws_of_states.specs.Keeping.{HasFacts}
use Rattle.laws_of_states.specs.AfterLaws.{in_task}
use Rattle.laws_of_states.specs.EntriesLaws.{found_put}
use Rattle.laws_of_states.specs.Laws.{TurnsStayConsistent}
use Rattle.laws_of_states.specs.PlacesLaws.{placed_of}
use Rattle.laws_of_states.specs.PointLaws.{IsSoundlyOpen}
use Rattle.laws_of_states.specs.StateLaws.{StatesStaySound}
use Rattle.service_ends.specs.declared.core_state.parts.MonitorParts.{MonitorParts}
use Rattle.service_ends.specs.Standing.{IsIndexed, state_of}
use Rattle.service_ends.specs.Whole.{IsWhole, app_of}
use Rattle.service_ends.specs.WholeLaws.{same_app}
use Rattle.service_ends.specs.declared.turned.Turned.{Turned as Did}
use Rattle.service_ends.specs.Ending.{Serves, turned_to}
use Rattle.monitor_core.specs.AloneLaws.{alone_of}
use Rattle.monitor_core.specs.StatedLaws.{sound_tables}
use Rattle.monitor_core.specs.SteppingLaws.{one_more}
use Rattle.monitor_core.specs.Turning.{IsHeldBy, state_then}

-- one turn or command more
pub more_steps : (p : MonitorParts) → IsIndexed p → IsIndexed (record p { steps = p.steps + 1 })
more_steps p h = record { owned = one_more p.generation p.steps p.active h.owned; ready = h.ready; places = h.places; locks = h.locks; jobs = h.jobs; charge = h.charge }

-- ---- tasks

seat_at : (places : List (Option Classed)) (n : ℕ) → n < length places → slice_get (map service_in places) n ≡ Some (service_in (place_by (slice_get places n)))
seat_at [] n lt = absurd (omega arith)
seat_at (place ∷ places) zero lt = refl
seat_at (place ∷ places) (suc n) lt = seat_at places n (omega arith)

-- what a task holds, as the scheduler answers it
pub seat_of : (p : MonitorParts) (task : ℕ) → IsTask task p.scheduler → (o : Option ServiceId) → o ≡ service_in (place_of task p.scheduler) → slice_get (state_of p).tasks (task - 1) ≡ Some o
seat_of p task is o e =
    let low : 1 ≤ task = is.0 in
    let high : task ≤ length p.scheduler.places = is.1 in
    seat_at p.scheduler.places (task - 1) (omega arith) ∙ ap (λ (q : Option ServiceId). Some q) (sym e)

-- a task of the generation is one of the scheduler
pub is_task : (app : Application) (s : State) (q : MonitorParts) (task : ℕ) → IsConsistent app s → IsWithin 1 app.generation.limits.tasks task → (state_of q).tasks ≡ s.tasks → IsTask task q.scheduler
is_task app s q task c within same =
    let count : length q.scheduler.places ≡ app.generation.limits.tasks = sym (length-map q.scheduler.places service_in) ∙ ap length same ∙ c.tasks in
    (within.0, subst (λ n. task ≤ n) (sym count) within.1)

then_tasks : (app : Application) (s : State) (id : ServiceId) (x y : OpenTransaction) (now : Happened) → (state_then app s id x y now).tasks ≡ s.tasks
then_tasks app s id x y Went = refl
then_tasks app s id x y Queued = refl
then_tasks app s id x y Waited = by (area_of app x)
  where
    by : (o : Option Area) → (waiting_for s id o).tasks ≡ s.tasks
    by None = refl
    by (Some area) = refl
then_tasks app s id x y (Held tac) = refl
then_tasks app s id x y (Settles o) = refl
then_tasks app s id x y (Breaks ending) = refl
then_tasks app s id x y Returns = refl

-- ---- what follows a statement

acts_without : (s : State) (id other : ServiceId) (x : OpenTransaction) → message_acts (without_wait s id) other x ≡ message_acts s other x
acts_without s id (Dialogue user) x = refl
acts_without s id (Asynchronous number) x = refl

module _ (p : MonitorParts) (task : ℕ) (id : ServiceId) (whole : IsWhole p) (at : IsHeldBy (state_of p) task id) where
  abbrev app : Application
  app = app_of p

  abbrev s : State
  s = state_of p

  open_by : (o : Option OpenTransaction) → is_some o ≡ true → (x : OpenTransaction) × (o ≡ Some x)
  open_by None e = absurd (true≢false (sym e))
  open_by (Some x) e = (x, refl)

  -- the service is open
  pub open_there : (x : OpenTransaction) × (find id_cmp id s.active ≡ Some x)
  open_there =
      let placed = placed_of app s whole.facts.0 id in
      let held = in_task app s task id placed at in
      open_by (find id_cmp id s.active) (placed.opened (omega (arith, held.held)))

  -- what a statement says of the parts after it
  module _ (q : MonitorParts) (now : Happened)
      (exact : (x : OpenTransaction) → find id_cmp id s.active ≡ Some x → now ≡ (statement_now app s id x).1)
      (state : (x : OpenTransaction) → find id_cmp id s.active ≡ Some x → state_of q ≡ state_then app s id x (statement_now app s id x).0 now) where
    then_now : state_of q ≡ state_then app s id open_there.0 (statement_now app s id open_there.0).0 now
    then_now = state open_there.0 open_there.1

    pub task_then : IsWithin 1 p.generation.limits.tasks task → IsTask task q.scheduler
    task_then within =
        is_task app s q task whole.facts.0 within (ap (λ (u : State). u.tasks) then_now ∙ then_tasks app s id open_there.0 (statement_now app s id open_there.0).0 now)

    -- the turn is what happens then
    pub served_so : (t : Turned) → t ≡ happens app s task id open_there.0 (statement_now app s id open_there.0).0 now → t ≡ served app s task id (find id_cmp id s.active)
    served_so t e =
        e ∙ ap (happens app s task id open_there.0 (statement_now app s id open_there.0).0) (exact open_there.0 open_there.1) ∙ sym (ap (served app s task id) open_there.1)

module _ (p : MonitorParts) (task : ℕ) (id : ServiceId) (whole : IsWhole p) (at : IsHeldBy (state_of p) task id) (q : MonitorParts) where
  abbrev x : OpenTransaction
  x = (open_there p task id whole at).0

  abbrev y : OpenTransaction
  y = (statement_now (app_of p) (state_of p) id x).0

  -- the state after it, and what it answered
  abbrev pub Exact : Happened → Type 0
  Exact now = (x : OpenTransaction) → find id_cmp id (state_of p).active ≡ Some x → now ≡ (statement_now (app_of p) (state_of p) id x).1

  abbrev pub StateThen : Happened → Type 0
  StateThen now = (x : OpenTransaction) → find id_cmp id (state_of p).active ≡ Some x → state_of q ≡ state_then (app_of p) (state_of p) id x (statement_now (app_of p) (state_of p) id x).0 now

  abbrev Served : Turned → Type 0
  Served t = t ≡ served (app_of p) (state_of p) task id (find id_cmp id (state_of p).active)

  there : find id_cmp id (state_of p).active ≡ Some x
  there = (open_there p task id whole at).1

  pub went : Exact Went → StateThen Went → Served (moved_to (state_of q) [])
  unfolding happens
  went exact state = served_so p task id whole at q Went exact state _ (ap (λ (u : State). moved_to u []) (state x there))

  pub waited : Exact Waited → StateThen Waited → Served (unmoved (state_of q))
  unfolding happens
  waited exact state = served_so p task id whole at q Waited exact state _ (ap (λ (u : State). unmoved u) (state x there))

  pub queued_there : StateThen Queued → is_some (find id_cmp id (state_of q).active) ≡ true
  queued_there state = ap (λ (u : State). is_some (find id_cmp id u.active)) (state x there) ∙ ap is_some (found_put id y (state_of p).active)

  pub queues : Exact Queued → StateThen Queued → (t : Turned) → t ≡ moved_to (record (with_task (state_of q) task None) { ready = (state_of q).ready ++ id ∷ [] }) [] → Served t
  unfolding happens
  queues exact state t e = served_so p task id whole at q Queued exact state t (e ∙ ap (λ (u : State). moved_to (record (with_task u task None) { ready = u.ready ++ id ∷ [] }) []) (state x there))

  pub holds_it : (tac : Bytes) → Exact (Held tac) → StateThen (Held tac) → (t : Turned)
      → ((z : OpenTransaction) → find id_cmp id (state_of q).active ≡ Some z → t ≡ moved_to (message_sent (with_task (state_of q) task None) id z) (message_acts (state_of q) id z)) → Served t
  unfolding happens
  holds_it tac exact state t e =
      served_so p task id whole at q (Held tac) exact state t
      (e x (ap (λ (u : State). find id_cmp id u.active) (state x there) ∙ there)
      ∙ ap (λ (u : State). moved_to (message_sent (with_task u task None) id x) (message_acts u id x)) (state x there)
      ∙ ap (moved_to (message_sent (with_task (without_wait (state_of p) id) task None) id x)) (acts_without (state_of p) id id x))

  -- ---- where the statement left the state as it was

  module _ (generation : q.generation ≡ p.generation) (units : q.units ≡ p.units) (state : state_of q ≡ state_of p) where
    still_there : find id_cmp id (state_of q).active ≡ Some x
    still_there = ap (λ (u : State). find id_cmp id u.active) state ∙ there

    pub still_serves : IsIndexed q → IsTask task q.scheduler → (z : OpenTransaction) × Serves q task id z
    still_serves h is = (
      x,
      record {
        indexed = h;
        is_task = is;
        alone = ap (λ (u : State). Rattle.abstract_monitor.specs.Sessions.is_running (with_task u task None) id) state ∙ alone_of (app_of p) (state_of p) task id whole.facts.0 at;
        is_open = still_there;
        stands =
            subst (λ (g : Generated). IsSoundlyOpen g q.tables id x) (sym generation)
            (subst (λ (u : State). IsSoundlyOpen p.generation u.tables id x) (sym state)
            (record { sound = sound_tables p whole.facts; can = whole.facts.1.transactions id x there; rooted = whole.facts.0.rooted id x there }));
      },
    )

    -- an end that is the definition's on these parts
    as_before : (t : Turned) (f : Application → State → OpenTransaction → Turned) → ((z : OpenTransaction) → find id_cmp id (state_of q).active ≡ Some z → t ≡ f (app_of q) (state_of q) z) → t ≡ f (app_of p) (state_of p) x
    as_before t f e = e x still_there ∙ (λ i. f (same_app p q generation units i) (state i) x)

  pub settles : (generation : q.generation ≡ p.generation) (units : q.units ≡ p.units) (o : Outcome) → Exact (Settles o) → StateThen (Settles o) → (t : Turned)
      → ((z : OpenTransaction) → find id_cmp id (state_of q).active ≡ Some z → t ≡ settled (app_of q) (state_of q) task id z o) → Served t
  unfolding happens
  settles generation units o exact state t e =
      served_so p task id whole at q (Settles o) exact state t (as_before generation units (state x there) t (λ app s z. settled app s task id z o) e)

  pub breaks : (generation : q.generation ≡ p.generation) (units : q.units ≡ p.units) (ending : Ending) → Exact (Breaks ending) → StateThen (Breaks ending) → (t : Turned)
      → ((z : OpenTransaction) → find id_cmp id (state_of q).active ≡ Some z → t ≡ abnormal (app_of q) (state_of q) task id z ending) → Served t
  unfolding happens
  breaks generation units ending exact state t e =
      served_so p task id whole at q (Breaks ending) exact state t (as_before generation units (state x there) t (λ app s z. abnormal app s task id z ending) e)

  pub returns : (generation : q.generation ≡ p.generation) (units : q.units ≡ p.units) → Exact Returns → StateThen Returns → (t : Turned)
      → ((z : OpenTransaction) → find id_cmp id (state_of q).active ≡ Some z → t ≡ back (app_of q) (without_transaction (state_of q) task id) id z z.began) → Served t
  unfolding happens
  returns generation units exact state t e =
      served_so p task id whole at q Returns exact state t (as_before generation units (state x there) t (λ app s z. back app (without_transaction s task id) id z z.began) e)

  pub settles_serves : (generation : q.generation ≡ p.generation) (units : q.units ≡ p.units) (o : Outcome) → StateThen (Settles o) → IsIndexed q → IsTask task q.scheduler → (z : OpenTransaction) × Serves q task id z
  settles_serves generation units o state = still_serves generation units (state x there)

  pub breaks_serves : (generation : q.generation ≡ p.generation) (units : q.units ≡ p.units) (ending : Ending) → StateThen (Breaks ending) → IsIndexed q → IsTask task q.scheduler → (z : OpenTransaction) × Serves q task id z
  breaks_serves generation units ending state = still_serves generation units (state x there)

  pub returns_serves : (generation : q.generation ≡ p.generation) (units : q.units ≡ p.units) → StateThen Returns → IsIndexed q → IsTask task q.scheduler → (z : OpenTransaction) × Serves q task id z
  returns_serves generation units state = still_serves generation units (state x there)

-- ---- a turn

pub turned_free : (app : Application) (s : State) (task : ℕ) → slice_get s.tasks (task - 1) ≡ Some None → took app s task (pick app s) ≡ turn_of app s task
unfolding turn_of
turned_free app s task e = sym (ap (turn_by app s task) e)

pub turned_held : (app : Application) (s : State) (task : ℕ) (id : ServiceId) → slice_get s.tasks (task - 1) ≡ Some (Some id) → served app s task id (find id_cmp id s.active) ≡ turn_of app s task
unfolding turn_of
turned_held app s task id e = sym (ap (turn_by app s task) e)

-- the laws on states say that the state after a turn has its facts
pub whole_after : (p q : MonitorParts) (task : ℕ) (t : Turned) → TurnsStayConsistent → StatesStaySound → IsWhole p → IsWithin 1 p.generation.limits.tasks task
    → q.generation ≡ p.generation → q.units ≡ p.units → IsIndexed q → t.after ≡ state_of q → t ≡ turn_of (app_of p) (state_of p) task → IsWhole q
whole_after p q task t consistent sound whole within generation units indexed after e = record {
  indexed = indexed;
  fit = subst (λ (g : Generated). IsFit g q.units) (sym generation) (subst (λ (u : FittedUnits). IsFit p.generation u) (sym units) whole.fit);
  application = subst IsApplication (sym same) whole.application;
  facts =
      subst (λ (a : Application). HasFacts a (state_of q)) (sym same)
      (subst (HasFacts (app_of p)) (sym (ap (λ (u : Turned). u.after) e) ∙ after)
      (consistent (app_of p) (state_of p) task whole.application within whole.facts, sound.turns (app_of p) (state_of p) task whole.application within whole.facts));
}
  where
    same : app_of q ≡ app_of p
    same = λ i. record { generation = generation i; units = (units i).units }

-- the service of a task did its statement
module _ {E : Type 0} (p q : MonitorParts) (task : ℕ) (id : ServiceId) (consistent : TurnsStayConsistent) (sound : StatesStaySound) (whole : IsWhole p) (within : IsWithin 1 p.generation.limits.tasks task)
    (at : IsHeldBy (state_of p) task id) where
  pub whole_served : (r : Result Did E) → IfOk r (λ (did : Did). turned_to (state_of q) did ≡ served (app_of p) (state_of p) task id (find id_cmp id (state_of p).active))
      → OnOk r (IsIndexed q) → OnOk r (q.generation ≡ p.generation) → OnOk r (q.units ≡ p.units) → OnOk r (IsWhole q)
  whole_served (Ok did) exact indexed generation units =
      whole_after p q task (turned_to (state_of q) did) consistent sound whole within generation units indexed refl (exact ∙ turned_held (app_of p) (state_of p) task id at)
  whole_served (Err e) exact indexed generation units = tt
