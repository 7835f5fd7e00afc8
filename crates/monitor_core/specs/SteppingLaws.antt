-- The parts after a statement of a service in a task.
use Rattle.std.specs.Prelude.{◌≡◌, refl, ◌+◌, ◌-◌, ℕ, zero, suc, Bool, true, false, List, [], ◌∷◌, map, Option, Some, None, IfSome, is_some, option_map, slice_get, slice_set}
use Rattle.std.specs.List.{list_any}
use Rattle.std.proofs.Common.{ap, sym, subst, ◌∙◌, true≢false, arith}
use Rattle.std.proofs.lemmas.Option.{slice_get-map}
use Rattle.std.specs.FinMap.{find, put}
use Rattle.kd_base.specs.ToolsLaws.{some_is}
use Rattle.application_types.specs.Generation.{Generated}
use Rattle.kdcs_types.specs.declared.key.Area.{Area}
use Rattle.kdcs_types.specs.declared.key.ServiceId.{ServiceId}
use Rattle.kdcs_types.specs.Keys.{id_cmp, id_eq}
use Rattle.kd_base.specs.MappedLaws.{put_mapped}
use Rattle.open_transaction.specs.Transactions.{Boxed, boxed_transaction}
use Rattle.service_ends.specs.Schedule.{Schedule, place_by, place_of, service_in, with_class, with_place}
use Rattle.abstract_monitor.specs.declared.answer.Happened.{Happened}
use Rattle.abstract_monitor.specs.declared.answer.Happened.TheVariants.{Went, Queued, Waited, Held, Settles, Breaks, Returns}
use Rattle.abstract_monitor.specs.declared.answer.Called.{Called}
use Rattle.abstract_monitor.specs.declared.answer.Called.TheVariants.{Replied, Waits, Abnormal, Pends}
use Rattle.abstract_monitor.specs.declared.answer.LockAnswer.{LockAnswer}
use Rattle.abstract_monitor.specs.declared.answer.LockAnswer.TheVariants.{Granted, Wait, Busy, Deadlock}
use Rattle.abstract_monitor.specs.Calls.{Performed, Told, answer_by, on_answer, touches}
use Rattle.abstract_monitor.specs.Endings.{is_asynchronous}
use Rattle.abstract_monitor.specs.Locks.{Active, IsExclusive, Locks}
use Rattle.abstract_monitor.specs.Picks.{Classed, class_of, current_by}
use Rattle.abstract_monitor.specs.Sessions.{in_place}
use Rattle.abstract_monitor.specs.State.{Application, OpenTransaction}
use Rattle.abstract_monitor.specs.Statements.{Stated, area_of, by_call, by_performed, statement}
use Rattle.abstract_monitor.specs.Turns.{statement_now, told_here, with_open}
use Rattle.laws_of_states.specs.Facts.{IsConsistent}
use Rattle.laws_of_states.specs.AfterLaws.{IsInTask, in_task}
use Rattle.laws_of_states.specs.AreasLaws.{exclusive_after, statement_holds}
use Rattle.laws_of_states.specs.CountsLaws.{counted_none}
use Rattle.laws_of_states.specs.EntriesLaws.{found_put, other_put}
use Rattle.laws_of_states.specs.KeptLaws.{statement_keeps}
use Rattle.laws_of_states.specs.PlacesLaws.{placed_of}
use Rattle.laws_of_states.specs.ShapesLaws.{AnsweredBy, IsAnswered, StatementAlone, StatementLeaves, StatementLocks, StatementLooks, StatementUnlocks, statement_looks}
use Rattle.service_ends.specs.declared.core_state.parts.MonitorParts.{MonitorParts}
use Rattle.service_ends.specs.ChangesLaws.{SameHolds, each_put, each_set, map_set, places_stay, put_others, ready_stay}
use Rattle.service_ends.specs.QueueLaws.{kept_queue}
use Rattle.service_ends.specs.Standing.{Each, HasClass, IsIndexed, IsOwned, PlaceHasClass, active_of, id_of, state_of}
use Rattle.service_ends.specs.Whole.{app_of}
use Rattle.monitor_core.specs.LockingLaws.{AreasMatch, put_same, stated_holds}

-- ---- a statement that is not done leaves its transaction as it was

-- only a statement that went, or PEND PA, changes the transaction
abbrev pub ChangesNone : (x y : OpenTransaction) → Happened → Type 0
ChangesNone x y Went = Unit {0}
ChangesNone x y Queued = Unit {0}
ChangesNone x y Waited = y ≡ x
ChangesNone x y (Held tac) = y ≡ x
ChangesNone x y (Settles o) = y ≡ x
ChangesNone x y (Breaks ending) = y ≡ x
ChangesNone x y Returns = y ≡ x

alone_none : (x y : OpenTransaction) (h : Happened) → StatementLeaves x y h → ChangesNone x y h
alone_none x y Went leaves = tt
alone_none x y Queued leaves = tt
alone_none x y Waited leaves = absurd leaves
alone_none x y (Held tac) leaves = leaves
alone_none x y (Settles o) leaves = leaves
alone_none x y (Breaks ending) leaves = leaves
alone_none x y Returns leaves = leaves

module _ (app : Application) (asy : Bool) (v : Told) (x : OpenTransaction) where
  abbrev NoneIn : Stated → Type 0
  NoneIn r = ChangesNone x r.0 r.1

  answered_none : (unit : Rattle.application_types.specs.UnitText.UnitText) (y z : OpenTransaction) (c : Called) → AnsweredBy y z c → NoneIn (by_call app asy unit z c)
  answered_none unit y z (Replied reply) h = tt
  answered_none unit y z Waits h = absurd h
  answered_none unit y z (Abnormal cause) h = absurd h
  answered_none unit y z (Pends variant o) h = absurd h

  locks_none : (unit : Rattle.application_types.specs.UnitText.UnitText) (area : Area) (go : OpenTransaction → Performed) → ((y : OpenTransaction) → IsAnswered y (go y)) → (answer : LockAnswer)
      → NoneIn (by_performed app asy unit (on_answer x area answer go))
  locks_none unit area go all Granted = answered_none unit _ (go _).0 (go _).1 (all _)
  locks_none unit area go all Wait = refl
  locks_none unit area go all Busy = tt
  locks_none unit area go all Deadlock = tt

  looks_none : (of : Option Area) (f : Told → Stated) → StatementLooks app asy x of f → NoneIn (f v)
  looks_none of f (StatementAlone r same leaves) = subst NoneIn (sym (same v)) (alone_none x r.0 r.1 leaves)
  looks_none of f (StatementLocks unit area go is same all) = subst NoneIn (sym (same v)) (locks_none unit area (go v.content) (all v.content) (answer_by v (touches x area)))
  looks_none of f (StatementUnlocks unit area is held same) = subst NoneIn (sym (same v)) tt

  pub changes_none : NoneIn (statement app v asy x)
  changes_none = looks_none (area_of app x) (λ w. statement app w asy x) (statement_looks app asy x)

-- ---- lists

set_again : {X : Type 0} (xs : List X) (n : ℕ) (a b : X) → slice_set (slice_set xs n a) n b ≡ slice_set xs n b
set_again [] n a b = refl
set_again (x ∷ xs) zero a b = refl
set_again (x ∷ xs) (suc n) a b = ap (λ l. x ∷ l) (set_again xs n a b)

set_same : {X : Type 0} (xs : List X) (n : ℕ) (a : X) → slice_get xs n ≡ Some a → slice_set xs n a ≡ xs
set_same [] n a e = refl
set_same (x ∷ xs) zero a e = ap (λ y. y ∷ xs) (sym (some_is x a e))
set_same (x ∷ xs) (suc n) a e = ap (λ l. x ∷ l) (set_same xs n a e)

-- ---- the place of the service

-- the place that holds the service, with another class
place_set : (places : List (Option Classed)) (n : ℕ) (id : ServiceId) (class : ℕ) → slice_get (map service_in places) n ≡ Some (Some id) → with_class class (place_by (slice_get places n)) ≡ Some (id, class)
place_set places n id class at = by (slice_get places n) (sym (slice_get-map service_in places n) ∙ at)
  where
    by : (o : Option (Option Classed)) → option_map service_in o ≡ Some (Some id) → with_class class (place_by o) ≡ Some (id, class)
    by None e = absurd (true≢false (sym (ap is_some e)))
    by (Some None) e = absurd (true≢false (sym (ap is_some (some_is (service_in None) (Some id) e))))
    by (Some (Some q)) e = ap (λ (i : ServiceId). Some (i, class)) (some_is q.0 id (some_is (Some q.0) (Some id) e))

-- and it holds one
pub is_seated : (places : List (Option Classed)) (n : ℕ) (id : ServiceId) → slice_get (map service_in places) n ≡ Some (Some id) → is_some (place_by (slice_get places n)) ≡ true
is_seated places n id at = by (slice_get places n) (sym (slice_get-map service_in places n) ∙ at)
  where
    by : (o : Option (Option Classed)) → option_map service_in o ≡ Some (Some id) → is_some (place_by o) ≡ true
    by None e = absurd (true≢false (sym (ap is_some e)))
    by (Some None) e = absurd (true≢false (sym (ap is_some (some_is (service_in None) (Some id) e))))
    by (Some (Some q)) e = refl

-- the same class changes nothing
pub class_stays : (s : Schedule) (task class : ℕ) → is_some (place_of task s) ≡ true → IfSome (place_of task s) (λ (e : Classed). e.1 ≡ class) → with_place task (with_class class (place_of task s)) s ≡ s
class_stays s task class held has = by (slice_get s.places (task - 1)) refl held has
  where
    by : (o : Option (Option Classed)) → slice_get s.places (task - 1) ≡ o → is_some (place_by o) ≡ true → IfSome (place_by o) (λ (e : Classed). e.1 ≡ class) → with_place task (with_class class (place_by o)) s ≡ s
    by None e h c = absurd (true≢false (sym h))
    by (Some None) e h c = absurd (true≢false (sym h))
    by (Some (Some q)) e h c = ap (λ (ps : List (Option Classed)). record s { places = ps }) (ap (λ (n : ℕ). slice_set s.places (task - 1) (Some (q.0, n))) (sym c) ∙ set_same s.places (task - 1) (Some q) e)

each_at : {X : Type 0} (P : X → Type 0) (xs : List X) (n : ℕ) (y : X) → Each P xs → slice_get xs n ≡ Some y → P y
each_at P [] n y ps e = absurd (true≢false (sym (ap is_some e)))
each_at P (x ∷ xs) zero y ps e = subst P (some_is x y e) ps.0
each_at P (x ∷ xs) (suc n) y ps e = each_at P xs n y ps.1 e

-- the task of a service has the class of its TAC
pub seated_class : (p : MonitorParts) (task : ℕ) (id : ServiceId) (x : OpenTransaction) → IsIndexed p → slice_get (state_of p).tasks (task - 1) ≡ Some (Some id) → find id_cmp id (state_of p).active ≡ Some x → IfSome (place_of task p.scheduler) (λ (e : Classed). e.1 ≡ class_of p.generation x.current)
seated_class p task id x h at is = by (slice_get p.scheduler.places (task - 1)) refl
  where
    by : (o : Option (Option Classed)) → slice_get p.scheduler.places (task - 1) ≡ o → IfSome (place_by o) (λ (e : Classed). e.1 ≡ class_of p.generation x.current)
    by None e = tt
    by (Some None) e = tt
    by (Some (Some q)) e =
        let there : Some (Some q.0) ≡ Some (Some id) = ap (option_map service_in) (sym e) ∙ sym (slice_get-map service_in p.scheduler.places (task - 1)) ∙ at in
        let same : q.0 ≡ id = some_is q.0 id (some_is (Some q.0) (Some id) there) in
        each_at (PlaceHasClass p.generation (active_of p.active)) p.scheduler.places (task - 1) (Some q) h.places e
        ∙ ap (λ (i : ServiceId). class_of p.generation (current_by (find id_cmp i (active_of p.active)))) same
        ∙ ap (λ (o : Option OpenTransaction). class_of p.generation (current_by o)) is

pub all_more : (g : Generated) (n more : ℕ) (es : List (ServiceId × Boxed)) → Each (IsOwned g n) es → Each (IsOwned g (n + more)) es
all_more g n more [] h = tt
all_more g n more (e ∷ es) h = (record { id = h.0.id; nb = h.0.nb; counted = omega (arith, h.0.counted) }, all_more g n more es h.1)

pub one_more : (g : Generated) (n : ℕ) (es : List (ServiceId × Boxed)) → Each (IsOwned g n) es → Each (IsOwned g (n + 1)) es
one_more g n es h = all_more g n 1 es h

-- ---- the parts

-- the service has this transaction, the locks match it, and the task has its class
abbrev pub stepped : MonitorParts → (task : ℕ) → ServiceId → Boxed → Locks → (class : ℕ) → MonitorParts
stepped p task id transaction locks class = record p {
  steps = p.steps + 1;
  active = put id_cmp id transaction p.active;
  locks = locks;
  scheduler = with_place task (with_class class (place_of task p.scheduler)) p.scheduler;
}

module _ (p : MonitorParts) (task : ℕ) (id : ServiceId) (x : OpenTransaction) (h : IsIndexed p) (c : IsConsistent (app_of p) (state_of p))
    (at : slice_get (state_of p).tasks (task - 1) ≡ Some (Some id)) (is : find id_cmp id (state_of p).active ≡ Some x) where
  alone : IsInTask (state_of p) task id
  alone = in_task (app_of p) (state_of p) task id (placed_of (app_of p) (state_of p) c id) at

  not_ready : list_any (id_eq id) (map id_of p.scheduler.ready) ≡ false
  not_ready = counted_none (id_eq id) (map id_of p.scheduler.ready) alone.ready

  not_elsewhere : list_any (in_place id) (map service_in (slice_set p.scheduler.places (task - 1) None)) ≡ false
  not_elsewhere = ap (list_any (in_place id)) (map_set service_in p.scheduler.places (task - 1) None) ∙ counted_none (in_place id) (slice_set (state_of p).tasks (task - 1) None) alone.freed

  module _ (transaction : Boxed) (locks : Locks) (now : Happened) (does : statement_now (app_of p) (state_of p) id x ≡ (boxed_transaction transaction, now)) where
    abbrev after : Active
    after = put id_cmp id (boxed_transaction transaction) (active_of p.active)

    exclusive : IsExclusive after
    exclusive =
        let keeps = statement_keeps (app_of p) (told_here (app_of p) (state_of p) id x) (is_asynchronous id) x in
        exclusive_after (active_of p.active) after id (λ i apart. other_put i id (boxed_transaction transaction) (active_of p.active) apart)
        (statement_holds (state_of p) p.generation.limits.reswait after id x (boxed_transaction transaction) (area_of (app_of p) x) c.active is (found_put id (boxed_transaction transaction) (active_of p.active))
        (subst (λ (y : OpenTransaction). Rattle.laws_of_states.specs.KeptLaws.HoldsNoMore (told_here (app_of p) (state_of p) id x) (area_of (app_of p) x) x y) (ap (λ (r : Stated). r.0) does) keeps.touched))
        c.exclusive

    class_now : (class : ℕ) → class ≡ class_of p.generation transaction.value.current → HasClass p.generation after (id, class)
    class_now class e = e ∙ sym (ap (λ (o : Option OpenTransaction). class_of p.generation (current_by o)) (found_put id (boxed_transaction transaction) (active_of p.active)))

    places_after : (class : ℕ) → class ≡ class_of p.generation transaction.value.current → Each (PlaceHasClass p.generation after) (slice_set p.scheduler.places (task - 1) (with_class class (place_of task p.scheduler)))
    places_after class e =
        let none = slice_set p.scheduler.places (task - 1) None in
        let others = each_set (PlaceHasClass p.generation (active_of p.active)) p.scheduler.places (task - 1) None tt h.places in
        let stay = places_stay p.generation (active_of p.active) after id (put_others id (boxed_transaction transaction) (active_of p.active)) none not_elsewhere others in
        subst (Each (PlaceHasClass p.generation after))
        (set_again p.scheduler.places (task - 1) None (Some (id, class)) ∙ ap (slice_set p.scheduler.places (task - 1)) (sym (place_set p.scheduler.places (task - 1) id class at)))
        (each_set (PlaceHasClass p.generation after) none (task - 1) (Some (id, class)) (class_now class e) stay)

    pub stepped_indexed : (class : ℕ) → class ≡ class_of p.generation transaction.value.current → AreasMatch p.locks locks id (boxed_transaction transaction)
        → IsOwned p.generation (p.steps + 1) (id, transaction) → IsIndexed (stepped p task id transaction locks class)
    stepped_indexed class e matching owned =
        let there = put_mapped id_cmp boxed_transaction id transaction p.active in
        record {
          owned = each_put (IsOwned p.generation (p.steps + 1)) id transaction p.active owned (one_more p.generation p.steps p.active h.owned);
          ready = subst (λ a. Each (HasClass p.generation a) p.scheduler.ready) there (ready_stay p.generation (active_of p.active) after id (put_others id (boxed_transaction transaction) (active_of p.active)) p.scheduler.ready not_ready h.ready);
          places = subst (λ a. Each (PlaceHasClass p.generation a) (slice_set p.scheduler.places (task - 1) (with_class class (place_of task p.scheduler)))) there (places_after class e);
          locks = subst (λ a. SameHolds locks a) there (stated_holds p.locks locks (active_of p.active) id (boxed_transaction transaction) matching h.locks exclusive);
          jobs = h.jobs ∙ kept_queue id (boxed_transaction transaction) (active_of p.active) p.tables.jobs (ap is_some is) ∙ ap (λ a. Rattle.open_transaction.specs.Marks.queue_of a p.tables.jobs) there;
          charge = h.charge;
        }

    -- the tasks hold the services that they held
    pub stepped_state : (class : ℕ) → state_of (stepped p task id transaction locks class) ≡ record (with_open (state_of p) id (boxed_transaction transaction)) { waits = locks.waits }
    stepped_state class = λ i. record (state_of p) {
      tasks = (ap (λ (o : Option Classed). map service_in (slice_set p.scheduler.places (task - 1) o)) (place_set p.scheduler.places (task - 1) id class at)
          ∙ map_set service_in p.scheduler.places (task - 1) (Some (id, class)) ∙ set_same (state_of p).tasks (task - 1) (Some id) at) i;
      active = sym (put_mapped id_cmp boxed_transaction id transaction p.active) i;
      waits = locks.waits;
    }

    -- a transaction that did not change is the one that was there
    pub unchanged_active : boxed_transaction transaction ≡ x → put id_cmp id (boxed_transaction transaction) (active_of p.active) ≡ (state_of p).active
    unchanged_active same = ap (λ (y : OpenTransaction). put id_cmp id y (active_of p.active)) same ∙ put_same id x (active_of p.active) c.active is
