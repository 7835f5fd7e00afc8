-- The job of an asynchronous service in its first transaction, whatever other services do; and the job that a task takes.
use Rattle.std.specs.Prelude.{◌≡◌, refl, ℕ, ◌≤◌, Bool, true, false, cond, ◌&&◌, IsTrue, List, [], ◌∷◌, ◌++◌, filter, is_some, nat_le, option_map, Option, Some, None}
use Rattle.std.proofs.Common.{inl, inr, sym, ap, ◌∙◌, subst, arith, true≢false}
use Rattle.std.proofs.lemmas.Bool.{leb-true}
use Rattle.std.specs.FinMap.Entries.{below_all}
use Rattle.kd_base.specs.ToolsLaws.{both_true, some_is}
use Rattle.kdcs_types.specs.declared.key.Key.TheVariants.{Job as JobKey}
use Rattle.kdcs_types.specs.declared.key.ServiceId.{ServiceId}
use Rattle.kdcs_types.specs.declared.key.ServiceId.TheVariants.{Dialogue, Asynchronous}
use Rattle.kdcs_types.specs.declared.key.Target.{Target}
use Rattle.kdcs_types.specs.declared.service.Job.{Job}
use Rattle.kdcs_types.specs.declared.service.JobValue.{JobValue}
use Rattle.kdcs_types.specs.declared.service.Service.{Service}
use Rattle.kdcs_types.specs.Keyed.{ascends, item_at, keyed}
use Rattle.kdcs_types.specs.KeyedLaws.{item_at_without, not_above}
use Rattle.kdcs_types.specs.Keys.{id_eq, key_cmp, key_eq}
use Rattle.kdcs_types.specs.declared.key.Key.{Key}
use Rattle.kdcs_types.specs.KeyLaws.{key_eq_itself, key_eq_same, other_number}
use Rattle.kdcs_types.specs.Tables.{TableRows, IsSortedTables, job_key, job_of}
use Rattle.application_types.specs.Generation.{Generated}
use Rattle.abstract_monitor.specs.declared.outcome.Outcome.{Outcome}
use Rattle.abstract_monitor.specs.declared.work.Work.TheVariants as work
use Rattle.abstract_monitor.specs.Bytes.{Bytes}
use Rattle.abstract_monitor.specs.Endings.{synchronised, broken}
use Rattle.abstract_monitor.specs.Picks.{Classed, due_job, earlier_of, free_jobs, is_earlier, is_free, least_job, pick, pick_by, place_classes, target_is_allowed}
use Rattle.abstract_monitor.specs.State.{Application, OpenTransaction, State}
use Rattle.laws_of_states.specs.JobLaw.{jobs_left, new_jobs}
use Rattle.laws_of_states.specs.JobLaws.{points_number, ends_draw_none, others_at_end}
use Rattle.laws_of_states.specs.ItemsLaws.{IsIn, in_filter, in_passes}
use Rattle.laws_of_states.specs.ListsLaws.{filter_passes}
use Rattle.serial_audit.specs.Audit.{IsDueFor}
use Rattle.trail_run.specs.HoldsFacts.{HasItsJob}

-- ---- the jobs of others

abbrev job_at : ℕ → List Job → Option Job
job_at n jobs = item_at job_key (JobKey n) jobs

left_kept : (id : ServiceId) (began : Option Service) (n : ℕ) (jobs : List Job) → id_eq (Asynchronous n) id ≡ false → job_at n (jobs_left id began jobs) ≡ job_at n jobs
left_kept (Dialogue user) began n jobs apart = refl
left_kept (Asynchronous m) (Some row) n jobs apart = refl
left_kept (Asynchronous m) None n jobs apart = item_at_without job_key (JobKey n) (JobKey m) jobs ∙ ap (λ b. cond b None (job_at n jobs)) (other_number n m apart)

before_kept : (n : ℕ) (jobs more : List Job) → is_some (job_at n jobs) ≡ true → job_at n (jobs ++ more) ≡ job_at n jobs
before_kept n [] more h = absurd (true≢false (sym h))
before_kept n (j ∷ js) more h = by (key_eq (JobKey n) (job_key j)) h (before_kept n js more)
  where
    by : (b : Bool) → is_some (cond b (Some j) (job_at n js)) ≡ true → (is_some (job_at n js) ≡ true → job_at n (js ++ more) ≡ job_at n js) → cond b (Some j) (job_at n (js ++ more)) ≡ cond b (Some j) (job_at n js)
    by true e later = refl
    by false e later = later e

there : (t : TableRows) (n : ℕ) → is_some (job_of t n) ≡ true → is_some (job_at n t.jobs) ≡ true
there t n h = by (job_at n t.jobs) h
  where
    by : (o : Option Job) → is_some (option_map (λ (j : Job). j.value) o) ≡ true → is_some o ≡ true
    by None e = e
    by (Some j) e = refl

-- the tables have the jobs of other services than this one
abbrev pub KeepsJobs : (t u : TableRows) → ServiceId → Type 0
KeepsJobs t u id = (n : ℕ) → id_eq (Asynchronous n) id ≡ false → is_some (job_of t n) ≡ true → job_of u n ≡ job_of t n

pub point_keeps : (g : Generated) (t : TableRows) (id : ServiceId) (x : OpenTransaction) (o : Outcome) → KeepsJobs t (synchronised g t id x o) id
point_keeps g t id x o n apart h =
    ap (option_map (λ (j : Job). j.value))
    (ap (job_at n) (points_number g t id x o).jobs
    ∙ before_kept n (jobs_left id x.began t.jobs) (new_jobs t x) (ap is_some (left_kept id x.began n t.jobs apart) ∙ there t n h)
    ∙ left_kept id x.began n t.jobs apart)

pub end_keeps : (g : Generated) (t : TableRows) (id : ServiceId) (x : OpenTransaction) → KeepsJobs t (broken g t id x) id
end_keeps g t id x n apart h = ap (option_map (λ (j : Job). j.value)) (ap (job_at n) (ends_draw_none g t id x).jobs ∙ others_at_end g id x.began n t.jobs apart)

-- so a service has its job still
pub has_still : (t u : TableRows) → t.clock ≤ u.clock → (i : ServiceId) (first : Bytes) (began : Option Service)
    → ((n : ℕ) → i ≡ Asynchronous n → is_some (job_of t n) ≡ true → job_of u n ≡ job_of t n) → HasItsJob t i first began → HasItsJob u i first began
has_still t u later (Dialogue user) first began same h = tt
has_still t u later (Asynchronous n) first (Some row) same h = tt
has_still t u later (Asynchronous n) first None same h = by (job_of t n) refl h
  where
    by : (o : Option JobValue) → job_of t n ≡ o → IsDueFor t.clock first o → IsDueFor u.clock first (job_of u n)
    by None e d = absurd d
    by (Some job) e d =
        let due : job.due ≤ t.clock = d.0 in
        let now : job.due ≤ u.clock = omega (arith, due, later) in
        let is : IsDueFor u.clock first (Some job) = (now, d.1) in
        subst (IsDueFor u.clock first) (sym (same n refl (ap is_some e) ∙ e)) is

-- ---- jobs in order

-- what is in a list in order is found there
pub in_found : {E : Type 0} (key_of : E → Key) (e : E) (es : List E) → IsTrue (ascends key_of es) → IsIn e es → item_at key_of (key_of e) es ≡ Some e
in_found key_of e [] up is = absurd is
in_found {E} key_of e (x ∷ xs) up (inl same) =
    subst (λ (y : E). item_at key_of (key_of e) (y ∷ xs) ≡ Some e) (sym same) (ap (λ b. cond b (Some e) (item_at key_of (key_of e) xs)) (key_eq_itself (key_of e)))
in_found {E} key_of e (x ∷ xs) up (inr later) =
    let parts = both_true (below_all key_cmp (key_of x) (keyed key_of xs)) (ascends key_of xs) up in
    by (key_eq (key_of e) (key_of x)) refl parts.0 (in_found key_of e xs parts.1 later)
  where
    by : (b : Bool) → key_eq (key_of e) (key_of x) ≡ b → IsTrue (below_all key_cmp (key_of x) (keyed key_of xs)) → item_at key_of (key_of e) xs ≡ Some e → cond b (Some x) (item_at key_of (key_of e) xs) ≡ Some e
    by true same above found =
        absurd (none (sym (ap (λ k. item_at key_of k xs) (key_eq_same (key_of e) (key_of x) same) ∙ not_above key_of (key_of x) (keyed key_of xs) above) ∙ found))
      where
        none : None ≡ Some e → ⊥
        none h = cc
    by false apart above found = found

pub job_found : (t : TableRows) (job : Job) → IsSortedTables t → IsIn job t.jobs → job_of t job.number ≡ Some job.value
job_found t job order is = ap (option_map (λ (j : Job). j.value)) (in_found job_key job t.jobs order.jobs is)

least_in : (js : List Job) (job : Job) → least_job js ≡ Some job → IsIn job js
unfolding least_job
least_in [] job e = absurd cc
least_in (j ∷ js) job e = by (least_job js) refl e (least_in js)
  where
    by : (o : Option Job) → least_job js ≡ o → earlier_of j o ≡ Some job → ((k : Job) → least_job js ≡ Some k → IsIn k js) → IsIn job (j ∷ js)
    by None is e rest = inl (some_is j job e)
    by (Some other) is e rest = pick_one (is_earlier other j) e
      where
        pick_one : (b : Bool) → Some (cond b other j) ≡ Some job → IsIn job (j ∷ js)
        pick_one true f = inr (rest job (is ∙ f))
        pick_one false f = inl (some_is j job f)

-- ---- the job that a task takes

-- a job of the tables that is due
pub record IsDueJob (t : TableRows) (job : Job) : Type 0 where
  pub there : IsIn job t.jobs
  pub due : job.value.due ≤ t.clock

due_found : (app : Application) (s : State) (allowed : Target → Bool) (job : Job) → due_job s.tables.clock allowed (free_jobs s.active s.tables.jobs) ≡ Some job → IsDueJob s.tables job
due_found app s allowed job e =
    let is_due : Job → Bool = λ (j : Job). nat_le j.value.due s.tables.clock && allowed j.value.to in
    let free = free_jobs s.active s.tables.jobs in
    let in_due = least_in (filter is_due free) job e in
    record {
      there = in_filter (is_free s.active) job s.tables.jobs (in_filter is_due job free in_due);
      due = leb-true job.value.due s.tables.clock (both_true (nat_le job.value.due s.tables.clock) (allowed job.value.to) (in_passes is_due job (filter is_due free) (filter_passes is_due free) in_due)).0;
    }

-- the job that a task takes is due
pub picked_due : (app : Application) (s : State) (number : ℕ) → IsSortedTables s.tables → pick app s ≡ Some (work.Job number) → (job : JobValue) → job_of s.tables number ≡ Some job → job.due ≤ s.tables.clock
unfolding pick
picked_due app s number order is job found = by _ (due_job s.tables.clock (target_is_allowed app.generation (place_classes app s)) (free_jobs s.active s.tables.jobs)) refl is
  where
    due_is : (j : Job) → j.number ≡ number → IsDueJob s.tables j → job.due ≤ s.tables.clock
    due_is j same d =
        let value : j.value ≡ job = some_is j.value job (sym (job_found s.tables j order d.there) ∙ ap (job_of s.tables) same ∙ found) in
        subst (λ (v : JobValue). v.due ≤ s.tables.clock) value d.due

    number_of : (a b : ℕ) → Some (work.Job a) ≡ Some (work.Job b) → a ≡ b
    number_of a b e = cc

    by : (ready : Option Classed) (o : Option Job) → due_job s.tables.clock (target_is_allowed app.generation (place_classes app s)) (free_jobs s.active s.tables.jobs) ≡ o → pick_by ready o ≡ Some (work.Job number) → job.due ≤ s.tables.clock
    by (Some e) o d f = absurd cc
    by None None d f = absurd cc
    by None (Some j) d f = due_is j (number_of j.number number f) (due_found app s _ j d)

-- ---- a job for an LTERM

-- where all that pass one test pass the other too, it takes nothing away
pub filtered_alike : (p q : Job → Bool) (js : List Job) → ((j : Job) → IsIn j js → p j ≡ true → q j ≡ true) → filter p (filter q js) ≡ filter p js
filtered_alike p q [] h = refl
filtered_alike p q (j ∷ js) h = by (q j) refl (p j) refl (filtered_alike p q js (λ k is. h k (inr is)))
  where
    by : (b : Bool) → q j ≡ b → (a : Bool) → p j ≡ a → filter p (filter q js) ≡ filter p js → filter p (cond b (j ∷ filter q js) (filter q js)) ≡ cond a (j ∷ filter p js) (filter p js)
    by true e a f rest = ap (λ c. cond c (j ∷ filter p (filter q js)) (filter p (filter q js))) f ∙ ap (λ (l : List Job). cond a (j ∷ l) l) rest
    by false e true f rest = absurd (true≢false (sym (h j (inl refl) f) ∙ e))
    by false e false f rest = rest
