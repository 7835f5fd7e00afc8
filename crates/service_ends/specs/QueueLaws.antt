-- Laws: the jobs of the tables with the marks of the open transactions, when a service opens or is over, and when the tables change.
use Rattle.std.specs.Prelude.{◌≡◌, ◌<◌, ◌+◌, refl, ℕ, suc, Bool, true, false, cond, not, ◌==◌, IsTrue, List, [], ◌∷◌, map, nat_lt, is_some, Option, Some, None}
use Rattle.std.proofs.Common.{ap, sym, subst, ◌∙◌, ◌⊎◌, inl, inr, arith}
use Rattle.std.proofs.lemmas.Bool.{cases_Bool, ltb-true, ltb-false, eqb-true, eqb-false, eq-eqb, ne_eqb}
use Rattle.std.specs.List.{insert, list_all}
use Rattle.std.specs.Ordering.{is_lt, ordering_then}
use Rattle.std.specs.declared.cmp.Ordering.{Ordering}
use Rattle.std.specs.declared.cmp.Ordering.TheVariants.{Less, Equal, Greater}
use Rattle.std.specs.FinMap.{find, put, is_sorted}
use Rattle.std.specs.FinMap.Entries.{below_all, by_order, where_key}
use Rattle.kd_base.specs.ToolsLaws.{both_true}
use Rattle.kdcs_types.specs.declared.act.Change.{Change}
use Rattle.kdcs_types.specs.declared.act.Change.TheVariants.{Set, Remove}
use Rattle.kdcs_types.specs.declared.act.Row.TheVariants as row
use Rattle.kdcs_types.specs.declared.key.Key.TheVariants as key
use Rattle.kdcs_types.specs.declared.key.ServiceId.{ServiceId}
use Rattle.kdcs_types.specs.declared.key.ServiceId.TheVariants.{Dialogue, Asynchronous}
use Rattle.kdcs_types.specs.declared.service.Job.{Job}
use Rattle.kdcs_types.specs.Keyed.{ascends, keyed, with_item}
use Rattle.kdcs_types.specs.Keys.{id_cmp, id_eq, key_cmp}
use Rattle.kdcs_types.specs.KeyLaws.{id_eq_same, less_number}
use Rattle.kdcs_types.specs.RowLaws.{sorted_with_change}
use Rattle.kdcs_types.specs.Tables.{TableRows, IsSortedTables, change_fits, job_key, with_change, with_changes}
use Rattle.open_transaction.specs.declared.async_queue.queue.QueuedJob.{QueuedJob}
use Rattle.open_transaction.specs.MarksLaws.{put_back_of, take_of, without_of}
use Rattle.open_transaction.specs.Marks.{queue_of, queued_in}
use Rattle.open_transaction.specs.Queue.{has_number, lesser_count, queued_at, untaken, with_job, with_mark, with_taken, without_job}
use Rattle.abstract_monitor.specs.Locks.{Active}
use Rattle.abstract_monitor.specs.Picks.{is_free}
use Rattle.abstract_monitor.specs.State.{OpenTransaction}
use Rattle.laws_of_states.specs.EntriesLaws.{found_put, other_put, other_without}
use Rattle.service_ends.specs.Queue.{marked_for, marked_if, is_open_job, with_marked, queue_after, queue_after_all}

-- ---- a service opens, goes on, or is over

same_queue : (active after : Active) → ((job : Job) → is_free active job ≡ is_free after job) → (jobs : List Job) → queue_of active jobs ≡ queue_of after jobs
same_queue active after h [] = refl
same_queue active after h (job ∷ jobs) = λ i. with_taken (not (h job i)) (untaken job) ∷ same_queue active after h jobs i

free_by : (active after : Active) (job : Job) → find id_cmp (Asynchronous job.number) after ≡ find id_cmp (Asynchronous job.number) active → is_free active job ≡ is_free after job
free_by active after job e = ap (λ (o : Option OpenTransaction). not (is_some o)) (sym e)

-- a service opens: its job is taken
pub opened_queue : (id : ServiceId) (x : OpenTransaction) (active : Active) (jobs : List Job) → marked_for true id (queue_of active jobs) ≡ queue_of (put id_cmp id x active) jobs
opened_queue (Dialogue user) x active jobs =
    same_queue active (put id_cmp (Dialogue user) x active) (λ job. free_by active (put id_cmp (Dialogue user) x active) job (other_put (Asynchronous job.number) (Dialogue user) x active refl)) jobs
opened_queue (Asynchronous n) x active jobs = take_of active n x jobs

-- a service is over: its job is free
pub closed_queue : (id : ServiceId) (active : Active) (jobs : List Job) → marked_for false id (queue_of active jobs) ≡ queue_of (where_key id_cmp (λ i. not (id_eq id i)) active) jobs
closed_queue (Dialogue user) active jobs =
    let after = where_key id_cmp (λ i. not (id_eq (Dialogue user) i)) active in
    same_queue active after (λ job. free_by active after job (other_without (Asynchronous job.number) (Dialogue user) active refl)) jobs
closed_queue (Asynchronous n) active jobs = put_back_of active n jobs

-- a statement of an open service: the marks stay
pub kept_queue : (id : ServiceId) (x : OpenTransaction) (active : Active) (jobs : List Job) → is_some (find id_cmp id active) ≡ true → queue_of active jobs ≡ queue_of (put id_cmp id x active) jobs
kept_queue id x active jobs is_open = same_queue active (put id_cmp id x active) same jobs
  where
    by : (job : Job) (b : Bool) → id_eq (Asynchronous job.number) id ≡ b → is_free active job ≡ is_free (put id_cmp id x active) job
    by job true e =
        let same : Asynchronous job.number ≡ id = id_eq_same _ _ e in
        ap (λ (i : ServiceId). not (is_some (find id_cmp i active))) same ∙ ap not is_open
        ∙ sym (ap (λ (i : ServiceId). not (is_some (find id_cmp i (put id_cmp id x active)))) same ∙ ap (λ (o : Option OpenTransaction). not (is_some o)) (found_put id x active))
    by job false e = free_by active (put id_cmp id x active) job (other_put (Asynchronous job.number) id x active e)

    same : (job : Job) → is_free active job ≡ is_free (put id_cmp id x active) job
    same job = by job _ refl

-- ---- the jobs of the tables change

-- the job is not there any more
pub gone : (n : ℕ) (queue : List QueuedJob) → queued_at n (without_job n queue) ≡ None
gone n [] = refl
gone n (q ∷ qs) = by (has_number n q) refl (gone n qs)
  where
    by : (b : Bool) → has_number n q ≡ b → queued_at n (without_job n qs) ≡ None → queued_at n (cond (not b) (q ∷ without_job n qs) (without_job n qs)) ≡ None
    by true e rest = rest
    by false e rest = ap (λ b. cond b (Some q) (queued_at n (without_job n qs))) e ∙ rest

-- the numbers are greater
abbrev IsAbove : ℕ → List Job → Type 0
IsAbove n [] = Unit {0}
IsAbove n (job ∷ jobs) = (n < job.number) × IsAbove n jobs

above_of : (n : ℕ) (jobs : List Job) → below_all key_cmp (key.Job n) (keyed job_key jobs) ≡ true → IsAbove n jobs
above_of n [] h = tt
above_of n (job ∷ jobs) h =
    let parts = both_true (is_lt (key_cmp (key.Job n) (job_key job))) (below_all key_cmp (key.Job n) (keyed job_key jobs)) h in
    (less_number n job.number parts.0, above_of n jobs parts.1)

above_less : (m n : ℕ) (jobs : List Job) → m < n → IsAbove n jobs → IsAbove m jobs
above_less m n [] lt h = tt
above_less m n (job ∷ jobs) lt h = (omega (arith, h.0), above_less m n jobs lt h.1)

without_above : (active : Active) (n : ℕ) (jobs : List Job) → IsAbove n jobs → without_job n (queue_of active jobs) ≡ queue_of active jobs
without_above active n [] h = refl
without_above active n (job ∷ jobs) h =
    ap (λ b. cond (not b) (queued_in active job ∷ without_job n (queue_of active jobs)) (without_job n (queue_of active jobs))) (ne_eqb job.number n (λ e. omega (arith, h.0, e)))
    ∙ ap (λ (l : List QueuedJob). queued_in active job ∷ l) (without_above active n jobs h.1)

mark_above : (active : Active) (n : ℕ) (jobs : List Job) → IsAbove n jobs → with_mark n true (queue_of active jobs) ≡ queue_of active jobs
mark_above active n [] h = refl
mark_above active n (job ∷ jobs) h =
    λ i. ap (λ b. cond b (record (queued_in active job) { taken = true }) (queued_in active job)) (ne_eqb job.number n (λ e. omega (arith, h.0, e))) i ∷ mark_above active n jobs h.1 i

count_above : (active : Active) (n : ℕ) (jobs : List Job) → IsAbove n jobs → lesser_count n (queue_of active jobs) ≡ 0
count_above active n [] h = refl
count_above active n (job ∷ jobs) h = ap (λ b. cond b (1 + lesser_count n (queue_of active jobs)) 0) (by (nat_lt job.number n) refl)
  where
    by : (b : Bool) → nat_lt job.number n ≡ b → nat_lt job.number n ≡ false
    by true e = absurd (omega (arith, ltb-true job.number n e, h.0))
    by false e = e

marked_first : (active : Active) (job : Job) (jobs : List Job) → IsAbove job.number jobs → (b : Bool) → is_open_job active job.number ≡ b
    → marked_if b job.number (untaken job ∷ queue_of active jobs) ≡ queue_of active (job ∷ jobs)
marked_first active job jobs h true e =
    (λ i. ap (λ c. cond c (record (untaken job) { taken = true }) (untaken job)) (eq-eqb job.number job.number refl) i ∷ mark_above active job.number jobs h i)
    ∙ ap (λ (b : Bool). with_taken (not (not b)) (untaken job) ∷ queue_of active jobs) (sym e)
marked_first active job jobs h false e = ap (λ (b : Bool). with_taken (not (not b)) (untaken job) ∷ queue_of active jobs) (sym e)

-- before all others
first_there : (active : Active) (job : Job) (jobs : List Job) → IsAbove job.number jobs
    → marked_if (is_open_job active job.number) job.number (with_job (untaken job) (queue_of active jobs)) ≡ queue_of active (job ∷ jobs)
first_there active job jobs h =
    ap (λ (at : ℕ). marked_if (is_open_job active job.number) job.number (insert (queue_of active jobs) at (untaken job))) (count_above active job.number jobs h)
    ∙ marked_first active job jobs h _ refl

-- after one with a lesser number
behind : (job : Job) (q : QueuedJob) (qs : List QueuedJob) → nat_lt q.number job.number ≡ true → with_job (untaken job) (q ∷ qs) ≡ q ∷ with_job (untaken job) qs
behind job q qs h =
    let one : 1 + lesser_count job.number qs ≡ suc (lesser_count job.number qs) = omega arith in
    ap (λ (i : ℕ). insert (q ∷ qs) i (untaken job)) (ap (λ b. cond b (1 + lesser_count job.number qs) 0) h ∙ one)

mark_passes : (b : Bool) (n : ℕ) (q : QueuedJob) (qs : List QueuedJob) → has_number n q ≡ false → marked_if b n (q ∷ qs) ≡ q ∷ marked_if b n qs
mark_passes true n q qs e = ap (λ c. cond c (record q { taken = true }) q ∷ with_mark n true qs) e
mark_passes false n q qs e = refl

abbrev number_order : ℕ → ℕ → Ordering
number_order a b = key_cmp (key.Job a) (key.Job b)

order_by : (a b : ℕ) → number_order a b ≡ cond (nat_lt a b) Less (cond (a == b) Equal Greater)
order_by a b = elim (nat_lt a b) as (λ t. ordering_then (ordering_then (cond t Less (cond (a == b) Equal Greater)) Equal) Equal ≡ cond t Less (cond (a == b) Equal Greater)) [
  | true ↦ refl
  | false ↦ elim (a == b) as (λ u. ordering_then (ordering_then (cond u Equal Greater) Equal) Equal ≡ cond u Equal Greater) [ true ↦ refl | false ↦ refl ]
]

lt_true : (a b : ℕ) → a < b → nat_lt a b ≡ true
lt_true a b h = by (cases_Bool (nat_lt a b))
  where
    by : (nat_lt a b ≡ true) ⊎ (nat_lt a b ≡ false) → nat_lt a b ≡ true
    by (inl e) = e
    by (inr e) = absurd (omega (arith, h, ltb-false a b e))

-- the items after their keys
unkeyed : (jobs : List Job) → jobs ≡ map (λ p. p.1) (keyed job_key jobs)
unkeyed [] = refl
unkeyed (j ∷ js) = ap (λ (l : List Job). j ∷ l) (unkeyed js)

-- the job comes to a list that begins with this one
module _ (active : Active) (job j : Job) (js : List Job) (above : IsAbove j.number js) where
  abbrev placed : Ordering → List Job
  placed r = map (λ p. p.1) (by_order r ((job_key job, job) ∷ keyed job_key (j ∷ js)) ((job_key j, job) ∷ keyed job_key js) ((job_key j, j) ∷ put key_cmp (job_key job) job (keyed job_key js)))

  abbrev rest_of : Bool → List QueuedJob
  rest_of b = cond (not b) (queued_in active j ∷ without_job job.number (queue_of active js)) (without_job job.number (queue_of active js))

  abbrev marked_rest : List QueuedJob → List QueuedJob
  marked_rest q = marked_if (is_open_job active job.number) job.number (with_job (untaken job) q)

  set_before : nat_lt job.number j.number ≡ true → with_marked active job (queue_of active (j ∷ js)) ≡ queue_of active (with_item job_key job (j ∷ js))
  set_before lt =
      let less : job.number < j.number = ltb-true job.number j.number lt in
      ap marked_rest (without_above active job.number (j ∷ js) (less, above_less job.number j.number js less above))
      ∙ first_there active job (j ∷ js) (less, above_less job.number j.number js less above)
      ∙ ap (λ l. queue_of active (job ∷ l)) (unkeyed (j ∷ js))
      ∙ ap (λ r. queue_of active (placed r)) (sym (order_by job.number j.number ∙ ap (λ t. cond t Less (cond (job.number == j.number) Equal Greater)) lt))

  set_at : nat_lt job.number j.number ≡ false → (job.number == j.number) ≡ true → with_marked active job (queue_of active (j ∷ js)) ≡ queue_of active (with_item job_key job (j ∷ js))
  set_at lt same =
      let is : job.number ≡ j.number = eqb-true job.number j.number same in
      let behind_it : IsAbove job.number js = subst (λ n. IsAbove n js) (sym is) above in
      ap (λ b. marked_rest (rest_of b)) (eq-eqb j.number job.number (sym is))
      ∙ ap marked_rest (without_above active job.number js behind_it)
      ∙ first_there active job js behind_it
      ∙ ap (λ l. queue_of active (job ∷ l)) (unkeyed js)
      ∙ ap (λ r. queue_of active (placed r)) (sym (order_by job.number j.number ∙ ap (λ t. cond t Less (cond (job.number == j.number) Equal Greater)) lt ∙ ap (λ t. cond t Equal Greater) same))

  set_behind : nat_lt job.number j.number ≡ false → (job.number == j.number) ≡ false → with_marked active job (queue_of active js) ≡ queue_of active (with_item job_key job js)
      → with_marked active job (queue_of active (j ∷ js)) ≡ queue_of active (with_item job_key job (j ∷ js))
  set_behind lt same rest =
      let more : j.number < job.number = omega (arith, ltb-false job.number j.number lt, eqb-false job.number j.number same) in
      let other : (j.number == job.number) ≡ false = ne_eqb j.number job.number (λ e. omega (arith, more, e)) in
      ap (λ b. marked_rest (rest_of b)) other
      ∙ ap (marked_if (is_open_job active job.number) job.number) (behind job (queued_in active j) (without_job job.number (queue_of active js)) (lt_true j.number job.number more))
      ∙ mark_passes (is_open_job active job.number) job.number (queued_in active j) (with_job (untaken job) (without_job job.number (queue_of active js))) other
      ∙ ap (λ (l : List QueuedJob). queued_in active j ∷ l) rest
      ∙ ap (λ r. queue_of active (placed r)) (sym (order_by job.number j.number ∙ ap (λ t. cond t Less (cond (job.number == j.number) Equal Greater)) lt ∙ ap (λ t. cond t Equal Greater) same))

-- a job that is set in the tables is in its place, with its mark
pub set_there : (active : Active) (job : Job) (jobs : List Job) → IsTrue (ascends job_key jobs) → with_marked active job (queue_of active jobs) ≡ queue_of active (with_item job_key job jobs)
set_there active job [] up = first_there active job [] tt
set_there active job (j ∷ js) up =
    let parts = both_true (below_all key_cmp (job_key j) (keyed job_key js)) (is_sorted key_cmp (keyed job_key js)) up in
    let above = above_of j.number js parts.0 in
    let rest = set_there active job js parts.1 in
    elim (cases_Bool (nat_lt job.number j.number)) [
      | inl lt ↦ set_before active job j js above lt
      | inr lt ↦ elim (cases_Bool (job.number == j.number)) [ inl same ↦ set_at active job j js above lt same | inr same ↦ set_behind active job j js above lt same rest ]
    ]

-- a change of the tables
pub queue_after_there : (active : Active) (t : TableRows) (c : Change) → IsSortedTables t → queue_after active c (queue_of active t.jobs) ≡ queue_of active (with_change t c).jobs
queue_after_there active t (Set (row.Job number value)) h = set_there active (record { number = number; value = value }) t.jobs h.jobs
queue_after_there active t (Set (row.Gssb name content)) h = refl
queue_after_there active t (Set (row.Tls block lterm content)) h = refl
queue_after_there active t (Set (row.Uls block user content)) h = refl
queue_after_there active t (Set (row.Service id service)) h = refl
queue_after_there active t (Set (row.Shown lterm value)) h = refl
queue_after_there active t (Remove (key.Job number)) h = without_of active number t.jobs
queue_after_there active t (Remove (key.Gssb name)) h = refl
queue_after_there active t (Remove (key.Tls block lterm)) h = refl
queue_after_there active t (Remove (key.Uls block user)) h = refl
queue_after_there active t (Remove (key.Service id)) h = refl
queue_after_there active t (Remove (key.Shown lterm)) h = refl

-- the changes one after another
pub queue_after_all_there : (active : Active) (cs : List Change) (t : TableRows) → IsSortedTables t → IsTrue (list_all change_fits cs) → queue_after_all active cs (queue_of active t.jobs) ≡ queue_of active (with_changes t cs).jobs
queue_after_all_there active [] t h fit = refl
queue_after_all_there active (c ∷ cs) t h fit =
    let parts = both_true (change_fits c) (list_all change_fits cs) fit in
    ap (queue_after_all active cs) (queue_after_there active t c h) ∙ queue_after_all_there active cs (with_change t c) (sorted_with_change t c h parts.0) parts.1
