-- Laws: the indexes are still those of the state after a change of the parts.
use Rattle.std.specs.Prelude.{◌≡◌, refl, ℕ, true, false, not, ◌-◌, List, [], ◌∷◌, ◌++◌, map, filter, IfSome, Option, Some, None, option_map, is_some, IsSome}
use Rattle.std.specs.List.{list_any}
use Rattle.std.proofs.Common.{ap, sym, subst, ◌∙◌, true≢false}
use Rattle.std.specs.FinMap.{find, put}
use Rattle.std.specs.FinMap.Entries.{where_key}
use Rattle.kdcs_types.specs.declared.key.Area.{Area}
use Rattle.kdcs_types.specs.declared.key.ServiceId.{ServiceId}
use Rattle.kdcs_types.specs.Keys.{id_cmp, id_eq}
use Rattle.kdcs_types.specs.declared.act.Changes.{Changes}
use Rattle.kdcs_types.specs.Tables.{TableRows, IsSortedTables, AreChanges, changed}
use Rattle.kd_base.specs.MappedLaws.{find_mapped, put_mapped, where_key_mapped}
use Rattle.kd_base.specs.Places.{without}
use Rattle.monitor_parts.specs.Asked.{freed, other_than}
use Rattle.open_transaction.specs.declared.async_queue.queue.QueuedJob.{QueuedJob}
use Rattle.open_transaction.specs.Transactions.{Boxed, boxed_transaction}
use Rattle.service_ends.specs.Schedule.{Schedule, with_ready, without_ready, released, with_place, service_in}
use Rattle.abstract_monitor.specs.Charges.{total_charge}
use Rattle.abstract_monitor.specs.Commands.{no_place}
use Rattle.abstract_monitor.specs.Endings.{durable}
use Rattle.abstract_monitor.specs.Locks.{Locks, holder}
use Rattle.abstract_monitor.specs.Picks.{class_of, current_by}
use Rattle.abstract_monitor.specs.Sessions.{is_running, in_place}
use Rattle.abstract_monitor.specs.State.{OpenTransaction}
use Rattle.abstract_monitor.specs.Turns.{with_task, with_open, without_open}
use Rattle.service_ends.specs.declared.core_state.parts.MonitorParts.{MonitorParts}
use Rattle.open_transaction.specs.Marks.{queue_of}
use Rattle.service_ends.specs.Queue.{marked_for, queue_after_all}
use Rattle.service_ends.specs.QueueLaws.{queue_after_all_there, opened_queue, closed_queue}
use Rattle.service_ends.specs.Standing.{Each, HasClass, PlaceHasClass, IsIndexed, IsOwned, active_of, id_of, state_of}
use Rattle.service_ends.specs.ChangesLaws.{SameHolds, each_put, each_where, each_set, each_push, each_found, map_set, map_push, ready_stay, places_stay, ready_without, places_left, classes_left}
use Rattle.service_ends.specs.ChangesLaws.{freed_holds, opened_holds, put_others, without_others, neither}
use Rattle.service_ends.specs.Kept.{with_active}
use Rattle.kdcs_types.specs.RowLaws.{numbers_apart}

-- ---- ready list and tasks

-- another schedule with right classes
pub scheduled : (p : MonitorParts) (schedule : Schedule) → IsIndexed p
    → Each (HasClass p.generation (active_of p.active)) schedule.ready → Each (PlaceHasClass p.generation (active_of p.active)) schedule.places
    → IsIndexed (record p { scheduler = schedule })
scheduled p schedule h ready places = record { owned = h.owned; ready = ready; places = places; locks = h.locks; jobs = h.jobs; charge = h.charge }

abbrev pub with_schedule : MonitorParts → Schedule → MonitorParts
with_schedule p schedule = record p { scheduler = schedule }

pub freed_task : (p : MonitorParts) (schedule : Schedule) (task : ℕ) → schedule ≡ with_place task None p.scheduler → IsIndexed p → IsIndexed (with_schedule p schedule)
freed_task p schedule task e h =
    subst (λ s. IsIndexed (with_schedule p s)) (sym e) (scheduled p (with_place task None p.scheduler) h h.ready (each_set _ p.scheduler.places (task - 1) None tt h.places))

pub freed_task_state : (p : MonitorParts) (schedule : Schedule) (task : ℕ) → schedule ≡ with_place task None p.scheduler → state_of (with_schedule p schedule) ≡ with_task (state_of p) task None
freed_task_state p schedule task e =
    ap (λ s. state_of (with_schedule p s)) e ∙ ap (λ (l : List (Option ServiceId)). record (state_of p) { tasks = l }) (map_set service_in p.scheduler.places (task - 1) None)

pub made_ready : (p : MonitorParts) (schedule : Schedule) (id : ServiceId) (class : ℕ) → class ≡ class_of p.generation (current_by (find id_cmp id (active_of p.active)))
    → schedule ≡ with_ready id class p.scheduler → IsIndexed p → IsIndexed (with_schedule p schedule)
made_ready p schedule id class right e h =
    subst (λ s. IsIndexed (with_schedule p s)) (sym e) (scheduled p (with_ready id class p.scheduler) h (each_push _ p.scheduler.ready (id, class) right h.ready) h.places)

pub made_ready_state : (p : MonitorParts) (schedule : Schedule) (id : ServiceId) (class : ℕ) → schedule ≡ with_ready id class p.scheduler
    → state_of (with_schedule p schedule) ≡ record (state_of p) { ready = (state_of p).ready ++ id ∷ [] }
made_ready_state p schedule id class e =
    ap (λ s. state_of (with_schedule p s)) e ∙ ap (λ (l : List ServiceId). record (state_of p) { ready = l }) (map_push id_of p.scheduler.ready (id, class))

abbrev pub withdrawn_schedule : ServiceId → Schedule → Schedule
withdrawn_schedule id s = released id (without_ready id s)

pub withdrawn_indexed : (p : MonitorParts) (schedule : Schedule) (id : ServiceId) → schedule ≡ withdrawn_schedule id p.scheduler → IsIndexed p → IsIndexed (with_schedule p schedule)
withdrawn_indexed p schedule id e h =
    subst (λ s. IsIndexed (with_schedule p s)) (sym e)
    (scheduled p (withdrawn_schedule id p.scheduler) h (each_where _ _ p.scheduler.ready h.ready) (classes_left p.generation (active_of p.active) id p.scheduler.places h.places))

pub withdrawn_state : (p : MonitorParts) (schedule : Schedule) (id : ServiceId) → schedule ≡ withdrawn_schedule id p.scheduler
    → state_of (with_schedule p schedule) ≡ record (state_of p) { ready = filter (λ (i : ServiceId). not (id_eq id i)) (state_of p).ready; tasks = map (no_place id) (state_of p).tasks }
withdrawn_state p schedule id e =
    ap (λ s. state_of (with_schedule p s)) e
    ∙ (λ i. record (state_of p) { ready = ready_without id p.scheduler.ready i; tasks = places_left id p.scheduler.places i })

-- ---- open transactions

-- the service is neither ready nor in a task
abbrev pub IsUnplaced : MonitorParts → ServiceId → Type 0
IsUnplaced p id = is_running (state_of p) id ≡ false

module _ (p : MonitorParts) (id : ServiceId) (h : IsIndexed p) (unplaced : IsUnplaced p id) where
  abbrev nowhere : (list_any (id_eq id) (map id_of p.scheduler.ready) ≡ false) × (list_any (in_place id) (map service_in p.scheduler.places) ≡ false)
  nowhere = neither (list_any (id_eq id) (map id_of p.scheduler.ready)) (list_any (in_place id) (map service_in p.scheduler.places)) unplaced

  closed_as : IsIndexed (with_active p (where_key id_cmp (λ i. not (id_eq id i)) p.active) (freed p.locks id) (marked_for false id p.jobs))
      → (active : List (ServiceId × Boxed)) (locks : Locks) (jobs : List QueuedJob)
      → active ≡ without id_cmp id p.active → locks ≡ freed p.locks id → jobs ≡ marked_for false id p.jobs → IsIndexed (with_active p active locks jobs)
  closed_as done active locks jobs a l j = subst (λ q. IsIndexed q) (sym (λ i. with_active p (a i) (l i) (j i))) done

  closed_done : ((area : Area) → holder (freed p.locks id) area ≡ other_than id (holder p.locks area))
      → IsIndexed (with_active p (where_key id_cmp (λ i. not (id_eq id i)) p.active) (freed p.locks id) (marked_for false id p.jobs))
  closed_done change_jobs =
      let left = where_key_mapped id_cmp boxed_transaction (λ i. not (id_eq id i)) p.active in
      record {
        owned = each_where _ _ p.active h.owned;
        ready = subst (λ a. Each (HasClass p.generation a) p.scheduler.ready) left (ready_stay p.generation (active_of p.active) _ id (without_others id (active_of p.active)) p.scheduler.ready nowhere.0 h.ready);
        places = subst (λ a. Each (PlaceHasClass p.generation a) p.scheduler.places) left (places_stay p.generation (active_of p.active) _ id (without_others id (active_of p.active)) p.scheduler.places nowhere.1 h.places);
        locks = subst (λ a. SameHolds (freed p.locks id) a) left (freed_holds p.locks (freed p.locks id) (active_of p.active) id change_jobs h.locks);
        jobs = ap (marked_for false id) h.jobs ∙ closed_queue id (active_of p.active) p.tables.jobs ∙ ap (λ a. queue_of a p.tables.jobs) left;
        charge = h.charge;
      }

  pub closed_indexed : (active : List (ServiceId × Boxed)) (locks : Locks) (jobs : List QueuedJob) → active ≡ without id_cmp id p.active → locks ≡ freed p.locks id
      → ((area : Area) → holder locks area ≡ other_than id (holder p.locks area)) → jobs ≡ marked_for false id p.jobs → IsIndexed (with_active p active locks jobs)
  closed_indexed active locks jobs a l change_jobs j = closed_as (closed_done (subst (λ (m : Locks). (area : Area) → holder m area ≡ other_than id (holder p.locks area)) l change_jobs)) active locks jobs a l j

  pub opened_indexed : (transaction : Boxed) (active : List (ServiceId × Boxed)) (jobs : List QueuedJob) → active ≡ put id_cmp id transaction p.active → jobs ≡ marked_for true id p.jobs
      → IsOwned p.generation p.steps (id, transaction) → find id_cmp id (active_of p.active) ≡ None → (boxed_transaction transaction).touched ≡ [] → IsIndexed (with_active p active p.locks jobs)
  opened_indexed transaction active jobs a j owned closed none =
      let there = put_mapped id_cmp boxed_transaction id transaction p.active in
      subst (λ x. IsIndexed (with_active p x p.locks jobs)) (sym a)
      record {
        owned = each_put (IsOwned p.generation p.steps) id transaction p.active owned h.owned;
        ready = subst (λ a. Each (HasClass p.generation a) p.scheduler.ready) there (ready_stay p.generation (active_of p.active) _ id (put_others id (boxed_transaction transaction) (active_of p.active)) p.scheduler.ready nowhere.0 h.ready);
        places = subst (λ a. Each (PlaceHasClass p.generation a) p.scheduler.places) there (places_stay p.generation (active_of p.active) _ id (put_others id (boxed_transaction transaction) (active_of p.active)) p.scheduler.places nowhere.1 h.places);
        locks = subst (λ a. SameHolds p.locks a) there (opened_holds p.locks (active_of p.active) id (boxed_transaction transaction) closed none h.locks);
        jobs = j ∙ ap (marked_for true id) h.jobs ∙ opened_queue id (boxed_transaction transaction) (active_of p.active) p.tables.jobs ∙ ap (λ a. queue_of a p.tables.jobs) there;
        charge = h.charge;
      }

pub closed_state : (p : MonitorParts) (id : ServiceId) (active : List (ServiceId × Boxed)) (locks : Locks) (jobs : List QueuedJob) → active ≡ without id_cmp id p.active → locks ≡ freed p.locks id
    → state_of (with_active p active locks jobs) ≡ without_open (state_of p) id
closed_state p id active locks jobs a l =
    (λ i. state_of (with_active p (a i) (l i) jobs))
    ∙ ap (λ (x : List (ServiceId × OpenTransaction)). record (without_open (state_of p) id) { active = x }) (sym (where_key_mapped id_cmp boxed_transaction (λ i. not (id_eq id i)) p.active))

pub opened_state : (p : MonitorParts) (id : ServiceId) (transaction : Boxed) (x : OpenTransaction) (active : List (ServiceId × Boxed)) (jobs : List QueuedJob) → active ≡ put id_cmp id transaction p.active → boxed_transaction transaction ≡ x
    → state_of (with_active p active p.locks jobs) ≡ with_open (state_of p) id x
opened_state p id transaction x active jobs a e =
    ap (λ l. state_of (with_active p l p.locks jobs)) a
    ∙ ap (λ (l : List (ServiceId × OpenTransaction)). record (state_of p) { active = l }) (sym (put_mapped id_cmp boxed_transaction id transaction p.active))
    ∙ ap (λ (y : OpenTransaction). with_open (state_of p) id y) e

-- the transaction that is found
pub found_transaction : (p : MonitorParts) (id : ServiceId) (result : Option Boxed) → result ≡ find id_cmp id p.active → option_map boxed_transaction result ≡ find id_cmp id (state_of p).active
found_transaction p id result e = ap (option_map boxed_transaction) e ∙ sym (find_mapped id_cmp boxed_transaction id p.active)

pub found_owned : (p : MonitorParts) (id : ServiceId) (result : Option Boxed) → result ≡ find id_cmp id p.active → IsIndexed p → IfSome result (λ (transaction : Boxed). IsOwned p.generation p.steps (id, transaction))
found_owned p id result e h = subst (λ o. IfSome o (λ (transaction : Boxed). IsOwned p.generation p.steps (id, transaction))) (sym e) (each_found (IsOwned p.generation p.steps) id p.active h.owned)

-- the class of the transaction that is found
pub found_class : (p : MonitorParts) (id : ServiceId) (transaction : Boxed) → Some transaction ≡ find id_cmp id p.active → class_of p.generation transaction.value.current ≡ class_of p.generation (current_by (find id_cmp id (active_of p.active)))
found_class p id transaction e = ap (λ o. class_of p.generation (current_by (option_map boxed_transaction o))) e ∙ ap (λ o. class_of p.generation (current_by o)) (sym (find_mapped id_cmp boxed_transaction id p.active))

pub none_found : (p : MonitorParts) (id : ServiceId) → None ≡ find id_cmp id p.active → IsSome (find id_cmp id (active_of p.active)) → ⊥
none_found p id e there =
    let none : find id_cmp id (active_of p.active) ≡ None = find_mapped id_cmp boxed_transaction id p.active ∙ ap (option_map boxed_transaction) (sym e) in
    true≢false (sym (subst (λ (o : Option OpenTransaction). IsSome o) none there))

pub found_open : (transactions : List (ServiceId × Boxed)) (id : ServiceId) → is_some (find id_cmp id transactions) ≡ is_some (find id_cmp id (active_of transactions))
found_open transactions id = by (find id_cmp id transactions) ∙ ap is_some (sym (find_mapped id_cmp boxed_transaction id transactions))
  where
    by : (o : Option Boxed) → is_some o ≡ is_some (option_map boxed_transaction o)
    by None = refl
    by (Some transaction) = refl

-- the changes of a commit, in the tables, in their charge and in the marked jobs
pub changed_indexed : (p : MonitorParts) (tables : TableRows) (charge : ℕ) (jobs : List QueuedJob) (c : Changes) → IsIndexed p → IsSortedTables p.tables → AreChanges c.items
    → tables ≡ changed p.tables c → charge ≡ total_charge p.generation.limits.blksize (durable p.generation (changed p.tables c)) → jobs ≡ queue_after_all (active_of p.active) c.items p.jobs
    → IsIndexed (record p { tables = tables; charge = charge; jobs = jobs })
changed_indexed p tables charge jobs c h sorted fit t e j =
    record {
      owned = h.owned;
      ready = h.ready;
      places = h.places;
      locks = h.locks;
      jobs =
          j ∙ ap (queue_after_all (active_of p.active) c.items) h.jobs
          ∙ queue_after_all_there (active_of p.active) c.items (record p.tables { clock = c.clock; next_job = c.next_job }) (numbers_apart p.tables c.clock c.next_job sorted) fit.fit
          ∙ ap (λ (u : TableRows). queue_of (active_of p.active) u.jobs) (sym t);
      charge = e ∙ ap (λ (u : TableRows). total_charge p.generation.limits.blksize (durable p.generation u)) (sym t);
    }
