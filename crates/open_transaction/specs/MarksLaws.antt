-- Laws: the queue of a state of the monitor: the jobs of its tables, of which those with an open service are taken. Each call on
-- the queue is a step of the state.
use Rattle.std.specs.Prelude.{◌≡◌, refl, ℕ, Bool, Option, Some, None, true, false, cond, not, ◌==◌, IsTrue, List, [], ◌∷◌, map, filter, nat_le, nat_lt, is_some, ◌&&◌, option_map}
use Rattle.std.proofs.Common.{sym, ap, ◌∙◌, arith}
use Rattle.std.specs.List.{list_all}
use Rattle.std.specs.Ordering.{nat_cmp, is_eq, ordering_then}
use Rattle.std.specs.declared.cmp.Ordering.TheVariants.{Less, Equal, Greater}
use Rattle.std.specs.Cmp.{eq_by_cmp_equiv}
use Rattle.std.proofs.lemmas.Bool.{ltb-true, ne_eqb}
use Rattle.std.specs.FinMap.{find as found_at, put}
use Rattle.std.specs.FinMap.Entries.{where_key, find-put, find-where_key}
use Rattle.kd_base.specs.ToolsLaws.{both_true}
use Rattle.kdcs_types.specs.declared.service.Job.{Job}
use Rattle.kdcs_types.specs.declared.key.Target.{Target}
use Rattle.kdcs_types.specs.declared.key.ServiceId.TheVariants.{Asynchronous}
use Rattle.kdcs_types.specs.declared.key.Key.TheVariants as key
use Rattle.kdcs_types.specs.Keys.{id_cmp, id_eq, key_eq}
use Rattle.kdcs_types.specs.KeyLaws.{id_total, key_total, same_id}
use Rattle.kdcs_types.specs.Keyed.{without_item}
use Rattle.kdcs_types.specs.Tables.{job_key}
use Rattle.abstract_monitor.specs.State.{OpenTransaction}
use Rattle.abstract_monitor.specs.Locks.{Active}
use Rattle.abstract_monitor.specs.Picks.{due_job, earlier_of as earlier_job, free_jobs, is_earlier as is_earlier_job, is_free, least_job}
use Rattle.open_transaction.specs.declared.async_queue.queue.QueuedJob.{QueuedJob}
use Rattle.open_transaction.specs.Queue.{earlier_of, first_due, is_due, least_queued, marked, untaken, with_mark, with_taken, without_job}
use Rattle.open_transaction.specs.Marks.{queued_in, queue_of}

-- ---- its first due job

earlier_so : (job : Job) (o : Option Job) → earlier_of (untaken job) (option_map untaken o) ≡ option_map untaken (earlier_job job o)
earlier_so job None = refl
earlier_so job (Some other) = by (is_earlier_job other job)
  where
    by : (b : Bool) → Some (cond b (untaken other) (untaken job)) ≡ option_map untaken (Some (cond b other job))
    by true = refl
    by false = refl

module _ (now : ℕ) (allowed : Target → Bool) (active : Active) where
  abbrev passes : Job → Bool
  passes job = nat_le job.value.due now && allowed job.value.to

  -- it is the due one of those that no open service has taken
  pub first_due_of : (jobs : List Job) → first_due now allowed (queue_of active jobs) ≡ option_map untaken (due_job now allowed (free_jobs active jobs))
  unfolding least_job
  first_due_of [] = refl
  first_due_of (job ∷ jobs) = by (is_free active job) (first_due_of jobs)
    where
      rest : List QueuedJob
      rest = filter (is_due now allowed) (queue_of active jobs)

      free : List Job
      free = filter passes (free_jobs active jobs)

      one : (c : Bool) → least_queued rest ≡ option_map untaken (least_job free) → least_queued (cond c (untaken job ∷ rest) rest) ≡ option_map untaken (least_job (cond c (job ∷ free) free))
      one true h = ap (earlier_of (untaken job)) h ∙ earlier_so job (least_job free)
      one false h = h

      by : (b : Bool) → least_queued rest ≡ option_map untaken (least_job free)
          → least_queued (cond (not (not b) && passes job) (with_taken (not b) (untaken job) ∷ rest) rest) ≡ option_map untaken (least_job (filter passes (cond b (job ∷ free_jobs active jobs) (free_jobs active jobs))))
      by true h = one (passes job) h
      by false h = h

-- where no job has an open service
pub untaken_of : (active : Active) (jobs : List Job) → IsTrue (list_all (is_free active) jobs) → map untaken jobs ≡ queue_of active jobs
untaken_of active [] h = refl
untaken_of active (job ∷ jobs) h =
    let parts = both_true (is_free active job) (list_all (is_free active) jobs) h in
    ap (λ b. with_taken (not b) (untaken job) ∷ map untaken jobs) (sym parts.0) ∙ ap (λ (l : List QueuedJob). queued_in active job ∷ l) (untaken_of active jobs parts.1)

-- ---- the numbers tell services and jobs apart

same_answer : (a b : ℕ) → is_eq (ordering_then (ordering_then (nat_cmp a b) Equal) Equal) ≡ (a == b)
same_answer a b =
    elim (nat_lt a b) as (λ t. nat_lt a b ≡ t → is_eq (ordering_then (ordering_then (cond t Less (cond (a == b) Equal Greater)) Equal) Equal) ≡ (a == b)) [
      | true ↦ λ e. sym (ne_eqb a b (λ s. omega (arith, ltb-true a b e, s)))
      | false ↦ λ e. elim (a == b) as (λ u. is_eq (ordering_then (ordering_then (cond u Equal Greater) Equal) Equal) ≡ u) [ true ↦ refl | false ↦ refl ]
    ] refl

pub same_service : (a b : ℕ) → id_eq (Asynchronous a) (Asynchronous b) ≡ (a == b)
same_service a b = same_answer a b

pub same_job : (a b : ℕ) → key_eq (key.Job a) (key.Job b) ≡ (a == b)
same_job a b = same_answer a b

-- ---- a service begins with a job: the job is taken

take_one : (active : Active) (n : ℕ) (x : OpenTransaction) (job : Job) → marked n true (queued_in active job) ≡ queued_in (put id_cmp (Asynchronous n) x active) job
take_one active n x job =
    let before = found_at id_cmp (Asynchronous job.number) active in
    elim (job.number == n) as (λ b. cond b (record (queued_in active job) { taken = true }) (queued_in active job) ≡ with_taken (not (not (is_some (cond b (Some x) before)))) (untaken job)) [ true ↦ refl | false ↦ refl ]
    ∙ sym (ap (λ (o : Option OpenTransaction). with_taken (not (not (is_some o))) (untaken job))
    (find-put id_cmp id_total (Asynchronous job.number) (Asynchronous n) x active ∙ ap (λ b. cond b (Some x) before) (same_service job.number n)))

pub take_of : (active : Active) (n : ℕ) (x : OpenTransaction) (jobs : List Job) → with_mark n true (queue_of active jobs) ≡ queue_of (put id_cmp (Asynchronous n) x active) jobs
take_of active n x [] = refl
take_of active n x (job ∷ jobs) =
    ap (λ (q : QueuedJob). q ∷ with_mark n true (queue_of active jobs)) (take_one active n x job)
    ∙ ap (λ (l : List QueuedJob). queued_in (put id_cmp (Asynchronous n) x active) job ∷ l) (take_of active n x jobs)

-- ---- the service has no open transaction any more: the job is put back

abbrev pub without_service : ℕ → Active → Active
without_service n active = where_key id_cmp (λ i. not (id_eq (Asynchronous n) i)) active

put_back_one : (active : Active) (n : ℕ) (job : Job) → marked n false (queued_in active job) ≡ queued_in (without_service n active) job
put_back_one active n job =
    let before = found_at id_cmp (Asynchronous job.number) active in
    elim (job.number == n) as (λ b. cond b (record (queued_in active job) { taken = false }) (queued_in active job) ≡ with_taken (not (not (is_some (cond (not b) before None)))) (untaken job)) [ true ↦ refl | false ↦ refl ]
    ∙ sym (ap (λ (o : Option OpenTransaction). with_taken (not (not (is_some o))) (untaken job))
    (find-where_key id_cmp (λ i. not (id_eq (Asynchronous n) i)) (Asynchronous job.number) (λ i e. ap (λ j. not (id_eq (Asynchronous n) j)) (sym (same_id (Asynchronous job.number) i e))) active
    ∙ ap (λ b. cond (not b) before None) ((eq_by_cmp_equiv id_total).symm (Asynchronous n) (Asynchronous job.number) ∙ same_service job.number n)))

pub put_back_of : (active : Active) (n : ℕ) (jobs : List Job) → with_mark n false (queue_of active jobs) ≡ queue_of (without_service n active) jobs
put_back_of active n [] = refl
put_back_of active n (job ∷ jobs) =
    ap (λ (q : QueuedJob). q ∷ with_mark n false (queue_of active jobs)) (put_back_one active n job)
    ∙ ap (λ (l : List QueuedJob). queued_in (without_service n active) job ∷ l) (put_back_of active n jobs)

-- ---- a job leaves the tables

pub without_of : (active : Active) (n : ℕ) (jobs : List Job) → without_job n (queue_of active jobs) ≡ queue_of active (without_item job_key (key.Job n) jobs)
without_of active n [] = refl
without_of active n (job ∷ jobs) =
    elim (job.number == n) as (λ b. cond (not b) (queued_in active job ∷ without_job n (queue_of active jobs)) (without_job n (queue_of active jobs)) ≡ queue_of active (cond (not b) (job ∷ without_item job_key (key.Job n) jobs) (without_item job_key (key.Job n) jobs))) [
      | true ↦ without_of active n jobs
      | false ↦ ap (λ (l : List QueuedJob). queued_in active job ∷ l) (without_of active n jobs)
    ]
    ∙ ap (λ b. queue_of active (cond (not b) (job ∷ without_item job_key (key.Job n) jobs) (without_item job_key (key.Job n) jobs)))
    (sym (same_job job.number n) ∙ sym ((eq_by_cmp_equiv key_total).symm (key.Job n) (key.Job job.number)))
