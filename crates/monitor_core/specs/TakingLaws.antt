-- A free task takes work: the state after it is that of the definition, and the indexes are those of that state.
use Rattle.std.specs.Prelude.{◌≡◌, refl, ◌-◌, ◌≤◌, ℕ, true, not, List, [], ◌∷◌, Option, Some, None, is_some}
use Rattle.std.proofs.Common.{ap, sym, subst, ◌∙◌, true≢false, arith}
use Rattle.std.specs.FinMap.{find, put}
use Rattle.application_types.specs.Generation.{Generated}
use Rattle.kdcs_types.specs.declared.key.ServiceId.{ServiceId}
use Rattle.kdcs_types.specs.declared.key.ServiceId.TheVariants.{Asynchronous}
use Rattle.kdcs_types.specs.declared.service.Job.{Job}
use Rattle.kdcs_types.specs.declared.service.JobValue.{JobValue}
use Rattle.kdcs_types.specs.Keys.{id_cmp}
use Rattle.kdcs_types.specs.Tables.{IsSortedTables, job_of}
use Rattle.laws_of_states.specs.NumbersLaws.{free_not_placed}
use Rattle.open_transaction.specs.Queue.{untaken, with_mark}
use Rattle.open_transaction.specs.Transactions.{Boxed, boxed_transaction}
use Rattle.service_ends.specs.Schedule.{Schedule, class_of_target, pick_queued, picked, service_in, took_job}
use Rattle.abstract_monitor.specs.declared.work.Work.{Work}
use Rattle.abstract_monitor.specs.declared.work.Work.TheVariants as work
use Rattle.abstract_monitor.specs.Bytes.{Bytes}
use Rattle.abstract_monitor.specs.Endings.{opened, opened_by_job}
use Rattle.abstract_monitor.specs.Picks.{class_of, current_by, pick}
use Rattle.abstract_monitor.specs.State.{OpenTransaction, State}
use Rattle.abstract_monitor.specs.Turns.{Turned, moved_to, took, took_job as state_took, took_job_for, unmoved, with_open, with_task}
use Rattle.laws_of_states.specs.Facts.{IsConsistent}
use Rattle.laws_of_states.specs.EntriesLaws.{found_put}
use Rattle.service_ends.specs.declared.core_state.parts.MonitorParts.{MonitorParts}
use Rattle.service_ends.specs.ChangesLaws.{each_set, map_set, opened_fresh}
use Rattle.service_ends.specs.KeptLaws.{opened_indexed, opened_state, scheduled, with_schedule}
use Rattle.service_ends.specs.Kept.{with_active}
use Rattle.service_ends.specs.Standing.{HasClass, IsIndexed, PlaceHasClass, active_of, state_of}
use Rattle.service_ends.specs.Whole.{app_of}
use Rattle.monitor_core.specs.PickingLaws.{IsTakeable, Picked, pick_of, picked_so, picks, took_indexed, took_state}
use Rattle.monitor_core.specs.Turning.{Begun, BegunBy, BegunFor}

-- ---- what the scheduler answered

-- what it answered at the clock of the tables
module _ (p : MonitorParts) (task : ℕ) (schedule : Schedule) (w : Option Work) (now : ℕ) (h : IsIndexed p) (order : IsSortedTables p.tables) (clock : now ≡ p.tables.clock)
    (transaction : w ≡ pick_queued p.generation p.scheduler.ready p.scheduler.places now p.jobs) (state : schedule ≡ picked p.generation task now p.jobs p.scheduler) where
  pub answered : w ≡ pick_of p
  answered = transaction ∙ ap (λ (n : ℕ). pick_queued p.generation p.scheduler.ready p.scheduler.places n p.jobs) clock

  pub picked_for : Picked p task schedule w
  picked_for =
      subst (Picked p task schedule) (sym answered)
      (picked_so p task schedule h order.jobs (state ∙ ap (λ (n : ℕ). picked p.generation task n p.jobs p.scheduler) clock))

-- the turn of a task that took this
abbrev pub took_by : MonitorParts → (task : ℕ) → Option Work → Turned
took_by p task w = took (app_of p) (state_of p) task w

pub took_picked : (p : MonitorParts) (task : ℕ) (w : Option Work) → IsIndexed p → w ≡ pick_of p → took_by p task w ≡ took_by p task (pick (app_of p) (state_of p))
took_picked p task w h e = ap (took_by p task) (e ∙ picks p h)

-- ---- nothing, or a ready service

pub took_none : (p : MonitorParts) (task : ℕ) (schedule : Schedule) → Picked p task schedule None → unmoved (state_of (with_schedule p schedule)) ≡ took_by p task None
took_none p task schedule is = ap (λ (s : Schedule). unmoved (state_of (with_schedule p s))) is

pub took_ready : (p : MonitorParts) (task : ℕ) (schedule : Schedule) (id : ServiceId) → Picked p task schedule (Some (work.Service id))
    → moved_to (state_of (with_schedule p schedule)) [] ≡ took_by p task (Some (work.Service id))
took_ready p task schedule id h = ap (λ (s : State). moved_to s []) (took_state p task schedule (id, h.0) h.2)

pub ready_indexed : (p : MonitorParts) (task : ℕ) (schedule : Schedule) (id : ServiceId) → Picked p task schedule (Some (work.Service id)) → IsIndexed p → IsIndexed (with_schedule p schedule)
ready_indexed p task schedule id h indexed = took_indexed p task schedule (id, h.0) h.2 h.1 indexed

-- ---- a job

current_opened : (g : Generated) (job : JobValue) (tac : Bytes) → (opened_by_job g job tac).current ≡ tac
unfolding opened
current_opened g job tac = refl

not_open : (o : Option OpenTransaction) → not (is_some o) ≡ true → o ≡ None
not_open None h = refl
not_open (Some x) h = absurd (true≢false (sym h))

module _ (p : MonitorParts) (task : ℕ) (schedule : Schedule) (j : Job) (h : IsIndexed p) (c : IsConsistent (app_of p) (state_of p))
    (t : IsTakeable p.generation (state_of p) j) (is : schedule ≡ took_job p.generation task (untaken j) p.scheduler) where
  abbrev id : ServiceId
  id = Asynchronous j.number

  abbrev IsBegun : MonitorParts → Type 0
  IsBegun q = Begun (with_schedule p schedule) q j.number j.value t.tac

  begins : (q : MonitorParts) → BegunBy (with_schedule p schedule) q j.number (job_of p.tables j.number) → IsBegun q
  begins q b =
      subst (BegunFor (with_schedule p schedule) q j.number j.value) t.to (subst (BegunBy (with_schedule p schedule) q j.number) t.there b)

  job_state : (q : MonitorParts) → IsBegun q → state_of q ≡ with_open (with_task (state_of p) task (Some id)) id (opened_by_job p.generation j.value t.tac)
  job_state q b =
      ap state_of b.parts
      ∙ opened_state (with_schedule p schedule) id b.transaction (opened_by_job p.generation j.value t.tac) (put id_cmp id b.transaction p.active) (with_mark j.number true p.jobs) refl b.exact
      ∙ ap (λ (s : State). with_open s id (opened_by_job p.generation j.value t.tac))
      (ap (λ (s : Schedule). state_of (with_schedule p s)) is
      ∙ ap (λ (l : List (Option ServiceId)). record (state_of p) { tasks = l }) (map_set service_in p.scheduler.places (task - 1) (Some (id, class_of_target p.generation j.value.to))))

  opened_with : (transaction : Boxed) → boxed_transaction transaction ≡ opened_by_job p.generation j.value t.tac → transaction.value.id ≡ id → transaction.value.messages.nb ≡ p.generation.limits.nb
      → IsIndexed (with_active p (put id_cmp id transaction p.active) p.locks (with_mark j.number true p.jobs))
  opened_with transaction exact same nb =
      let fresh = opened_fresh p.generation None (record { benid = j.value.user; logter = j.value.lterm; tacvg = t.tac; tacal = t.tac }) (j.value.message ∷ []) [] in
      opened_indexed p id h (free_not_placed (app_of p) (state_of p) c j t.free) transaction _ _ refl refl
      record { id = same; nb = nb; counted = subst (λ n. n ≤ p.steps) (sym (ap (λ (x : OpenTransaction). x.statements) exact ∙ fresh.1)) (omega arith) }
      (not_open _ t.free)
      (ap (λ (x : OpenTransaction). x.touched) exact ∙ fresh.0)

  job_class : (transaction : Boxed) → boxed_transaction transaction ≡ opened_by_job p.generation j.value t.tac → HasClass p.generation (active_of (put id_cmp id transaction p.active)) (id, class_of_target p.generation j.value.to)
  job_class transaction exact =
      ap (class_of_target p.generation) t.to
      ∙ sym (ap (λ (o : Option OpenTransaction). class_of p.generation (current_by o))
      (ap (find id_cmp id) (sym (Rattle.kd_base.specs.MappedLaws.put_mapped id_cmp boxed_transaction id transaction p.active)) ∙ found_put id (boxed_transaction transaction) (active_of p.active) ∙ ap (λ (x : OpenTransaction). Some x) exact)
      ∙ ap (class_of p.generation) (current_opened p.generation j.value t.tac))

  job_indexed : (q : MonitorParts) → IsBegun q → IsIndexed q
  job_indexed q b =
      let open_now = opened_with b.transaction b.exact b.id b.nb in
      let active = put id_cmp id b.transaction p.active in
      let next = with_active p active p.locks (with_mark j.number true p.jobs) in
      let there = took_job p.generation task (untaken j) p.scheduler in
      subst IsIndexed (sym (b.parts ∙ ap (λ (s : Schedule). with_schedule next s) is))
      (scheduled next there open_now open_now.ready (each_set (PlaceHasClass p.generation (active_of active)) p.scheduler.places (task - 1) (Some (id, class_of_target p.generation j.value.to)) (job_class b.transaction b.exact) open_now.places))

  job_exact : (q : MonitorParts) → IsBegun q → moved_to (state_of q) [] ≡ took_by p task (Some (work.Job j.number))
  job_exact q b =
      ap (λ (s : State). moved_to s []) (job_state q b)
      ∙ sym (ap (state_took (app_of p) (state_of p) task j.number) t.there ∙ ap (took_job_for (app_of p) (state_of p) task j.number j.value) t.to)

module _ (p : MonitorParts) (task : ℕ) (schedule : Schedule) (number : ℕ) (q : MonitorParts) (h : IsIndexed p) (c : IsConsistent (app_of p) (state_of p))
    (took : Picked p task schedule (Some (work.Job number))) (begun : BegunBy (with_schedule p schedule) q number (job_of p.tables number)) where
  of_job : BegunBy (with_schedule p schedule) q took.0.number (job_of p.tables took.0.number)
  of_job = subst (λ n. BegunBy (with_schedule p schedule) q n (job_of p.tables n)) took.1 begun

  pub took_begun : moved_to (state_of q) [] ≡ took_by p task (Some (work.Job number))
  took_begun =
      job_exact p task schedule took.0 h c took.2 took.3 q (begins p task schedule took.0 h c took.2 took.3 q of_job)
      ∙ ap (λ n. took_by p task (Some (work.Job n))) (sym took.1)

  pub begun_indexed : IsIndexed q
  begun_indexed = job_indexed p task schedule took.0 h c took.2 took.3 q (begins p task schedule took.0 h c took.2 took.3 q of_job)
