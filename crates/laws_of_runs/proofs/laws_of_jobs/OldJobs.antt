-- What a commit makes of each job that was there.
use Rattle.std.specs.Prelude.{◌≡◌, ◌⊎◌, refl, ℕ, zero, suc, ◌+◌, ◌<◌, nat_lt, Bool, true, false, cond, IsTrue, List, [], ◌∷◌, ◌++◌, length, Option, Some, None, Contains, slice_index_or}
use Rattle.std.specs.Option.{option_map}
use Rattle.std.specs.Ordering.{is_eq, is_lt}
use Rattle.std.specs.declared.cmp.Ordering.{Ordering}
use Rattle.std.specs.declared.cmp.Ordering.TheVariants.{Less, Equal, Greater}
use Rattle.std.specs.List.{list_all}
use Rattle.std.specs.FinMap.Entries.{below_all}
use Rattle.std.proofs.Common.{sym, ap, subst, ◌∙◌, inl, inr, arith, true≢false}
use Rattle.std.proofs.lemmas.Bool.{ltb-true}
use Rattle.kd_base.specs.ToolsLaws.{both_true, some_is}
use Rattle.kdcs_types.specs.declared.act.Act.{Act}
use Rattle.kdcs_types.specs.declared.key.Key.{Key}
use Rattle.kdcs_types.specs.declared.key.Key.TheVariants.{Job as JobKey}
use Rattle.kdcs_types.specs.declared.key.ServiceId.{ServiceId}
use Rattle.kdcs_types.specs.declared.key.ServiceId.TheVariants.{Dialogue, Asynchronous}
use Rattle.kdcs_types.specs.declared.service.Ending.{Ending}
use Rattle.kdcs_types.specs.declared.service.Ending.TheVariants.{Synced, Broken, BrokenFr}
use Rattle.kdcs_types.specs.declared.service.Job.{Job}
use Rattle.kdcs_types.specs.declared.service.JobValue.{JobValue}
use Rattle.kdcs_types.specs.declared.service.Service.{Service}
use Rattle.kdcs_types.specs.declared.service.Settled.{Settled}
use Rattle.kdcs_types.specs.Keyed.{item_at, keyed, ascends}
use Rattle.kdcs_types.specs.KeyedLaws.{found_passes, item_at_with, item_at_without}
use Rattle.kdcs_types.specs.KeyLaws.{key_eq_same, key_eq_itself}
use Rattle.kdcs_types.specs.Keys.{key_cmp, key_eq}
use Rattle.kdcs_types.specs.Tables.{TableRows, job_key}
use Rattle.application_types.specs.Generation.{Generated}
use Rattle.abstract_monitor.specs.Redelivery.{fate}
use Rattle.abstract_monitor.specs.State.{Application}
use Rattle.abstract_monitor.specs.Commands.{Maker, ByTick, ByShow, ByTransaction}
use Rattle.laws_of_states.specs.Commits.{AreNumberedFrom, OldJobs, AllStay, OneGoes, OneChanges, old_jobs, IsAmong, by_fate, by_end, TreatsOwn, Treats, QueueLaw}
use Rattle.laws_of_states.specs.JobLaw.{job_with}
use Rattle.laws_of_states.specs.ItemsLaws.{IsIn, job_number}

-- ---- jobs by number

abbrev pub at : ℕ → List Job → Option Job
at n jobs = item_at job_key (JobKey n) jobs

pub same_number : (n m : ℕ) → JobKey n ≡ JobKey m → n ≡ m
same_number n m e = cc

other_number : (n m : ℕ) → n < m → key_eq (JobKey n) (JobKey m) ≡ false
other_number n m less = by (key_eq (JobKey n) (JobKey m)) refl
  where
    by : (b : Bool) → key_eq (JobKey n) (JobKey m) ≡ b → key_eq (JobKey n) (JobKey m) ≡ false
    by false e = e
    by true e = let same = same_number n m (key_eq_same (JobKey n) (JobKey m) e) in absurd (omega arith)

-- a number below the first new one is none of theirs
pub not_made : (made : List Job) (n m : ℕ) → AreNumberedFrom m made → n < m → at n made ≡ None
not_made [] n m h less = refl
not_made (j ∷ js) n m h less =
    ap (λ (b : Bool). cond b (Some j) (at n js)) (ap (λ k. key_eq (JobKey n) (JobKey k)) h.0 ∙ other_number n m less)
    ∙ not_made js n (m + 1) h.1 (omega arith)

pub at_both : (n : ℕ) (js ks : List Job) → at n ks ≡ None → at n (js ++ ks) ≡ at n js
at_both n [] ks h = h
at_both n (j ∷ js) ks h = ap (λ (o : Option Job). cond (key_eq (JobKey n) (job_key j)) (Some j) o) (at_both n js ks h)

abbrev pub value : Option Job → Option JobValue
value o = option_map (λ (j : Job). j.value) o

is_in : (g : Job) (js : List Job) (k : ℕ) → k < length js → slice_index_or js k g ≡ g → IsIn g js
is_in g [] k less e = absurd (omega arith)
is_in g (x ∷ xs) zero less e = inl e
is_in g (x ∷ xs) (suc k) less e = inr (is_in g xs k (omega arith) e)

-- the key is below those of all that follow
below_in : (k : Key) (g : Job) (js : List Job) → below_all key_cmp k (keyed job_key js) ≡ true → IsIn g js → is_lt (key_cmp k (job_key g)) ≡ true
below_in k g [] h i = absurd i
below_in k g (x ∷ xs) h (inl same) = ap (λ (j : Job). is_lt (key_cmp k (job_key j))) (sym same) ∙ (both_true (is_lt (key_cmp k (job_key x))) (below_all key_cmp k (keyed job_key xs)) h).0
below_in k g (x ∷ xs) h (inr later) = below_in k g xs (both_true (is_lt (key_cmp k (job_key x))) (below_all key_cmp k (keyed job_key xs)) h).1 later

not_below : (k : Key) → is_lt (key_cmp k k) ≡ true → ⊥
not_below k h = by (key_cmp k k) h (key_eq_itself k)
  where
    by : (r : Ordering) → is_lt r ≡ true → is_eq r ≡ true → ⊥
    by Less h e = true≢false (sym e)
    by Equal h e = true≢false (sym h)
    by Greater h e = true≢false (sym h)

other_key : (k q : Key) → is_lt (key_cmp k q) ≡ true → key_eq q k ≡ false
other_key k q h = by (key_eq q k) refl
  where
    by : (b : Bool) → key_eq q k ≡ b → key_eq q k ≡ false
    by false e = e
    by true e = absurd (not_below k (ap (λ (p : Key). is_lt (key_cmp k p)) (sym (key_eq_same q k e)) ∙ h))

-- a job in a list in order is the one of its number
in_found : (g : Job) (js : List Job) → IsTrue (ascends job_key js) → IsIn g js → at g.number js ≡ Some g
in_found g [] h i = absurd i
in_found g (x ∷ xs) h (inl same) =
    ap (λ (b : Bool). cond b (Some x) (at g.number xs)) (ap (λ (j : Job). key_eq (JobKey g.number) (job_key j)) same ∙ key_eq_itself (JobKey g.number)) ∙ ap (λ (j : Job). Some j) same
in_found g (x ∷ xs) h (inr later) =
    let parts = both_true (below_all key_cmp (job_key x) (keyed job_key xs)) (ascends job_key xs) h in
    ap (λ (b : Bool). cond b (Some x) (at g.number xs)) (other_key (job_key x) (job_key g) (below_in (job_key x) g xs parts.0 later)) ∙ in_found g xs parts.1 later

-- ---- the jobs that were there

-- a job stays as it is, or goes, or has another value
abbrev Meets : OldJobs → ℕ → Job → Option Job → Type 0
Meets old n j o = (o ≡ Some j) ⊎ (((old ≡ OneGoes j) × (o ≡ None)) ⊎ ((w : JobValue) × ((old ≡ OneChanges j w) × (o ≡ Some (job_with n w)))))

module _ (jobs : List Job) (sorted : IsTrue (ascends job_key jobs)) (n : ℕ) where
  -- the one of this number is that of the list
  same_job : (g j : Job) → Contains jobs g → n ≡ g.number → at n jobs ≡ Some j → g ≡ j
  same_job g j there own e = some_is g j (sym (in_found g jobs sorted (is_in g jobs there.0 there.1 there.2)) ∙ ap (λ m. at m jobs) (sym own) ∙ e)

  same_key : (g : Job) → key_eq (JobKey n) (JobKey g.number) ≡ true → n ≡ g.number
  same_key g e = same_number n g.number (key_eq_same (JobKey n) (JobKey g.number) e)

  no_job : (g : Job) → Contains jobs g → at n jobs ≡ None → n ≡ g.number → ⊥
  no_job g there e own = none_is_some g (sym e ∙ ap (λ m. at m jobs) own ∙ in_found g jobs sorted (is_in g jobs there.0 there.1 there.2))
    where
      none_is_some : (k : Job) → None ≡ Some k → ⊥
      none_is_some k f = cc

  none_stays : (old : OldJobs) → IsAmong old jobs → at n jobs ≡ None → at n (old_jobs old jobs) ≡ None
  none_stays AllStay among e = e
  none_stays (OneGoes g) among e = item_at_without job_key (JobKey n) (JobKey g.number) jobs ∙ by (key_eq (JobKey n) (JobKey g.number))
    where
      by : (b : Bool) → cond b None (at n jobs) ≡ None
      by true = refl
      by false = e
  none_stays (OneChanges g w) among e = item_at_with job_key (JobKey n) (job_with g.number w) jobs ∙ by (key_eq (JobKey n) (JobKey g.number)) refl
    where
      by : (b : Bool) → key_eq (JobKey n) (JobKey g.number) ≡ b → cond b (Some (job_with g.number w)) (at n jobs) ≡ None
      by true same = absurd (no_job g among e (same_key g same))
      by false same = e

  one_meets : (j : Job) → at n jobs ≡ Some j → (old : OldJobs) → IsAmong old jobs → Meets old n j (at n (old_jobs old jobs))
  one_meets j e AllStay among = inl e
  one_meets j e (OneGoes g) among = by (key_eq (JobKey n) (JobKey g.number)) refl (item_at_without job_key (JobKey n) (JobKey g.number) jobs)
    where
      by : (b : Bool) → key_eq (JobKey n) (JobKey g.number) ≡ b → at n (old_jobs (OneGoes g) jobs) ≡ cond b None (at n jobs) → Meets (OneGoes g) n j (at n (old_jobs (OneGoes g) jobs))
      by true same is = inr (inl (ap (λ k. OneGoes k) (same_job g j among (same_key g same) e), is))
      by false same is = inl (is ∙ e)
  one_meets j e (OneChanges g w) among = by (key_eq (JobKey n) (JobKey g.number)) refl (item_at_with job_key (JobKey n) (job_with g.number w) jobs)
    where
      by : (b : Bool) → key_eq (JobKey n) (JobKey g.number) ≡ b → at n (old_jobs (OneChanges g w) jobs) ≡ cond b (Some (job_with g.number w)) (at n jobs)
          → Meets (OneChanges g w) n j (at n (old_jobs (OneChanges g w) jobs))
      by true same is = inr (inr (w, (ap (λ k. OneChanges k w) (same_job g j among (same_key g same) e), is ∙ ap (λ m. Some (job_with m w)) (sym (same_key g same)))))
      by false same is = inl (is ∙ e)

-- ---- a job that changes has its fate

module _ (g : Generated) (job : Job) (w : JobValue) where
  no_stay : {A : Type 0} → OneChanges job w ≡ AllStay → A
  no_stay e = absurd (cc e)

  no_going : {A : Type 0} (j : Job) → OneChanges job w ≡ OneGoes j → A
  no_going j e = absurd (cc e)

  one_value : (j : Job) (v : JobValue) → OneChanges job w ≡ OneChanges j v → (job ≡ j) × (w ≡ v)
  one_value j v e = (cc, cc)

  fate_from : (j : Job) (o : Option JobValue) → fate g j.value ≡ o → OneChanges job w ≡ by_fate j o → fate g job.value ≡ Some w
  fate_from j None f e = no_going j e
  fate_from j (Some v) f e = let same = one_value j v e in ap (λ (k : Job). fate g k.value) same.0 ∙ f ∙ ap (λ (u : JobValue). Some u) (sym same.1)

  fate_at_end : (ending : Ending) (j : Job) → OneChanges job w ≡ by_end g ending j → fate g job.value ≡ Some w
  fate_at_end Synced j e = no_going j e
  fate_at_end (Broken cause) j e = fate_from j (fate g j.value) refl e
  fate_at_end BrokenFr j e = fate_from j (fate g j.value) refl e

  fate_of_own : (kept : Settled) (id : ServiceId) (began : Option Service) → TreatsOwn g kept id began (OneChanges job w) → fate g job.value ≡ Some w
  fate_of_own kept (Dialogue user) began e = no_stay e
  fate_of_own kept (Asynchronous number) (Some row) e = no_stay e
  fate_of_own kept (Asynchronous number) None h = fate_at_end kept.ending h.0 h.1.1

changes_by_fate : (app : Application) (by : Maker) (job : Job) (w : JobValue) (u : TableRows) (acts : List Act) → Treats app by (OneChanges job w) u acts → fate app.generation job.value ≡ Some w
changes_by_fate app (ByTick ticks) job w u acts e = no_stay app.generation job w e
changes_by_fate app (ByShow lterm) job w u acts h = no_going app.generation job w h.0 h.1.0
changes_by_fate app (ByTransaction kept) job w u acts h = fate_of_own app.generation job w kept kept.service kept.began h

-- ---- one commit

module _ (app : Application) (t u : TableRows) (by : Maker) (acts : List Act) (q : QueueLaw app t u by acts) (sorted : IsTrue (ascends job_key t.jobs)) (number : ℕ) (drawn : number < t.next_job) where
  seen : at number u.jobs ≡ at number (old_jobs q.old t.jobs)
  seen = ap (at number) q.jobs ∙ at_both number (old_jobs q.old t.jobs) q.made (not_made q.made number t.next_job q.numbers drawn)

  -- what is gone stays so
  pub no_job_comes : at number t.jobs ≡ None → at number u.jobs ≡ None
  no_job_comes e = seen ∙ none_stays t.jobs sorted number q.old q.was_there e

  -- it is taken, and gone
  abbrev pub Goes : JobValue → Type 0
  Goes v = Treats app by (OneGoes (job_with number v)) u acts × (value (at number u.jobs) ≡ None)

  -- it is delivered again, or is a dead letter
  abbrev pub Changes : JobValue → Type 0
  Changes v = (w : JobValue) × ((fate app.generation v ≡ Some w) × (value (at number u.jobs) ≡ Some w))

  pub job_meets : (j : Job) → at number t.jobs ≡ Some j → (value (at number u.jobs) ≡ Some j.value) ⊎ (Goes j.value ⊎ Changes j.value)
  job_meets j e = either (one_meets t.jobs sorted number j e q.old q.was_there)
    where
      own : j.number ≡ number
      own = job_number number t.jobs j e

      either : Meets q.old number j (at number (old_jobs q.old t.jobs)) → (value (at number u.jobs) ≡ Some j.value) ⊎ (Goes j.value ⊎ Changes j.value)
      either (inl stays) = inl (ap value (seen ∙ stays))
      either (inr (inl goes)) =
          inr (inl (subst (λ (o : OldJobs). Treats app by o u acts) (goes.0 ∙ ap (λ m. OneGoes (job_with m j.value)) own) q.treats, ap value (seen ∙ goes.1)))
      either (inr (inr changes)) =
          inr (inr (changes.0, (changes_by_fate app by j changes.0 u acts (subst (λ (o : OldJobs). Treats app by o u acts) changes.1.0 q.treats), ap value (seen ∙ changes.1.1))))

-- a job of the tables was drawn
pub job_drawn : (t : TableRows) → IsTrue (list_all (λ (j : Job). nat_lt j.number t.next_job) t.jobs) → (number : ℕ) (j : Job) → at number t.jobs ≡ Some j → number < t.next_job
job_drawn t below number j e =
    subst (λ (n : ℕ). n < t.next_job) (job_number number t.jobs j e)
    (ltb-true j.number t.next_job (found_passes job_key (λ (k : Job). nat_lt k.number t.next_job) (JobKey number) t.jobs j below e))
