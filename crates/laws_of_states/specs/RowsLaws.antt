-- What steps make of the rows that services look at: their own, and their job's.
use Rattle.std.specs.Prelude.{◌≡◌, refl, ℕ, Bool, true, false, cond, IsTrue, List, [], ◌∷◌, ◌++◌, filter, Option, Some, None, is_some, if◌then◌else◌}
use Rattle.std.proofs.Common.{sym, ap, ◌∙◌, subst, true≢false}
use Rattle.std.specs.FinMap.{is_sorted}
use Rattle.std.specs.FinMap.Entries.{where_key, is_sorted-where_key}
use Rattle.std.specs.List.{list_all}
use Rattle.kd_base.specs.ToolsLaws.{some_is, both_true, true_both, is_some_map}
use Rattle.kdcs_types.specs.declared.key.Key.{Key}
use Rattle.kdcs_types.specs.declared.key.Key.TheVariants.{Service as ServiceKey, Job as JobKey}
use Rattle.kdcs_types.specs.declared.key.ServiceId.{ServiceId}
use Rattle.kdcs_types.specs.declared.key.ServiceId.TheVariants.{Dialogue, Asynchronous}
use Rattle.kdcs_types.specs.declared.service.Job.{Job}
use Rattle.kdcs_types.specs.declared.service.Service.{Service}
use Rattle.kdcs_types.specs.Keyed.{keyed, ascends, item_at, without_item}
use Rattle.kdcs_types.specs.KeyedLaws.{item_at_without}
use Rattle.kdcs_types.specs.Keys.{id_eq, key_cmp, key_eq}
use Rattle.kdcs_types.specs.KeyLaws.{other_number}
use Rattle.kdcs_types.specs.Tables.{TableRows, job_key, service_key, job_of, service_of}
use Rattle.application_types.specs.Generation.{Generated}
use Rattle.abstract_monitor.specs.declared.outcome.Outcome.{Outcome}
use Rattle.abstract_monitor.specs.Bytes.{Bytes}
use Rattle.abstract_monitor.specs.Commands.{rolled_tables}
use Rattle.abstract_monitor.specs.Endings.{synchronised, broken}
use Rattle.abstract_monitor.specs.Picks.{earlier_of, is_earlier, least_job}
use Rattle.abstract_monitor.specs.State.{Application, OpenTransaction}
use Rattle.laws_of_states.specs.JobLaws.{points_number, ends_draw_none, others_at_end}
use Rattle.laws_of_states.specs.JobLaw.{jobs_left, new_jobs}
use Rattle.laws_of_states.specs.Transactions.{HasOwnJob}
use Rattle.kd_base.specs.OrderLaws.{holds, is_true}

-- ---- jobs

-- the job with this number is there
abbrev pub has_job : List Job → ℕ → Bool
has_job jobs number = is_some (item_at job_key (JobKey number) jobs)

pub job_there : (t : TableRows) (number : ℕ) → is_some (job_of t number) ≡ has_job t.jobs number
job_there t number = is_some_map (λ (j : Job). j.value) (item_at job_key (JobKey number) t.jobs)

job_appended : (n : ℕ) (js ks : List Job) → has_job js n ≡ true → has_job (js ++ ks) n ≡ true
job_appended n [] ks h = absurd (true≢false (sym h))
job_appended n (j ∷ js) ks h = by (key_eq (JobKey n) (job_key j)) h (job_appended n js ks)
  where
    by : (b : Bool) → is_some (cond b (Some j) (item_at job_key (JobKey n) js)) ≡ true → (has_job js n ≡ true → has_job (js ++ ks) n ≡ true)
        → is_some (cond b (Some j) (item_at job_key (JobKey n) (js ++ ks))) ≡ true
    by true e later = refl
    by false e later = later e

-- a job of another number stays
pub job_stays : (n m : ℕ) (js : List Job) → id_eq (Asynchronous n) (Asynchronous m) ≡ false → has_job js n ≡ true → has_job (without_item job_key (JobKey m) js) n ≡ true
job_stays n m js apart h =
    ap is_some (item_at_without job_key (JobKey n) (JobKey m) js)
    ∙ ap (λ b. is_some (cond b None (item_at job_key (JobKey n) js))) (other_number n m apart) ∙ h

job_left : (id : ServiceId) (began : Option Service) (n : ℕ) (js : List Job) → id_eq (Asynchronous n) id ≡ false → has_job js n ≡ true → has_job (jobs_left id began js) n ≡ true
job_left (Dialogue user) began n js apart h = h
job_left (Asynchronous m) (Some row) n js apart h = h
job_left (Asynchronous m) None n js apart h = job_stays n m js apart h

-- where each job of the old tables but this service's is in the new ones, other services have their jobs
pub own_jobs : (t u : TableRows) (id : ServiceId) → ((n : ℕ) → id_eq (Asynchronous n) id ≡ false → has_job t.jobs n ≡ true → has_job u.jobs n ≡ true)
    → (i : ServiceId) (began : Option Service) → id_eq i id ≡ false → HasOwnJob t i began → HasOwnJob u i began
own_jobs t u id stay (Dialogue user) began apart h = tt
own_jobs t u id stay (Asynchronous n) (Some row) apart h = tt
own_jobs t u id stay (Asynchronous n) None apart h = job_there u n ∙ stay n apart (sym (job_there t n) ∙ h)

pub synchronised_jobs : (g : Generated) (t : TableRows) (id : ServiceId) (x : OpenTransaction) (o : Outcome) (i : ServiceId) (began : Option Service) → id_eq i id ≡ false
    → HasOwnJob t i began → HasOwnJob (synchronised g t id x o) i began
synchronised_jobs g t id x o = own_jobs t (synchronised g t id x o) id (λ n apart h.
    ap (λ js. has_job js n) (points_number g t id x o).jobs ∙ job_appended n (jobs_left id x.began t.jobs) (new_jobs t x) (job_left id x.began n t.jobs apart h))

pub broken_jobs : (g : Generated) (t : TableRows) (id : ServiceId) (x : OpenTransaction) (i : ServiceId) (began : Option Service) → id_eq i id ≡ false
    → HasOwnJob t i began → HasOwnJob (broken g t id x) i began
broken_jobs g t id x = own_jobs t (broken g t id x) id (λ n apart h. ap (λ js. has_job js n) (ends_draw_none g t id x).jobs ∙ ap is_some (others_at_end g id x.began n t.jobs apart) ∙ h)

-- ---- the rows of services

-- a sign-off removes at most the row of its user
pub rolled_other : (restarts : Bool) (app : Application) (t : TableRows) (user : Bytes) (i : ServiceId) → id_eq i (Dialogue user) ≡ false → service_of (rolled_tables app t user restarts) i ≡ service_of t i
rolled_other true app t user i apart = refl
rolled_other false app t user i apart =
    item_at_without service_key (ServiceKey i) (ServiceKey (Dialogue user)) t.services ∙ ap (λ b. cond b None (service_of t i)) apart

-- rows in order stay so
pub kept_ascends : (p : ServiceId → Bool) (rows : List Service) → IsTrue (ascends service_key rows) → IsTrue (ascends service_key (filter (λ (s : Service). p s.id) rows))
kept_ascends p rows h = ap (is_sorted key_cmp) (kept_keys rows) ∙ is_true _ (is_sorted-where_key key_cmp passes (keyed service_key rows) (holds _ h))
  where
    passes : Key → Bool
    passes (ServiceKey id) = p id
    passes _ = true

    kept_keys : (rs : List Service) → keyed service_key (filter (λ (s : Service). p s.id) rs) ≡ where_key key_cmp passes (keyed service_key rs)
    kept_keys [] = refl
    kept_keys (r ∷ rs) = by (p r.id) (kept_keys rs)
      where
        by : (b : Bool) → keyed service_key (filter (λ (s : Service). p s.id) rs) ≡ where_key key_cmp passes (keyed service_key rs)
            → keyed service_key (cond b (r ∷ filter (λ (s : Service). p s.id) rs) (filter (λ (s : Service). p s.id) rs))
            ≡ cond b ((service_key r, r) ∷ where_key key_cmp passes (keyed service_key rs)) (where_key key_cmp passes (keyed service_key rs))
        by true e = ap (λ (l : List (Key × Service)). (service_key r, r) ∷ l) e
        by false e = e

-- ---- due jobs

-- what holds of each job of a list holds of the least
pub least_passes : (p : Job → Bool) (js : List Job) (j : Job) → list_all p js ≡ true → least_job js ≡ Some j → p j ≡ true
unfolding least_job
least_passes p [] j all is = absurd (true≢false (sym (ap is_some is)))
least_passes p (k ∷ ks) j all is =
    let parts = both_true (p k) (list_all p ks) all in
    by (least_job ks) refl is (λ l e. least_passes p ks l parts.1 e)
  where
    head : p k ≡ true
    head = (both_true (p k) (list_all p ks) all).0

    by : (o : Option Job) → least_job ks ≡ o → earlier_of k o ≡ Some j → ((l : Job) → least_job ks ≡ Some l → p l ≡ true) → p j ≡ true
    by None e t later = subst (λ l. p l ≡ true) (some_is k j t) head
    by (Some l) e t later = either (is_earlier l k) (some_is (if is_earlier l k then l else k) j t)
      where
        either : (b : Bool) → (if b then l else k) ≡ j → p j ≡ true
        either true q = subst (λ m. p m ≡ true) q (later l e)
        either false q = subst (λ m. p m ≡ true) q head

pub all_filtered : (p q : Job → Bool) (js : List Job) → list_all p js ≡ true → list_all p (filter q js) ≡ true
all_filtered p q [] h = refl
all_filtered p q (j ∷ js) h = by (q j) (all_filtered p q js parts.1)
  where
    parts : (p j ≡ true) × (list_all p js ≡ true)
    parts = both_true (p j) (list_all p js) h

    by : (b : Bool) → list_all p (filter q js) ≡ true → list_all p (cond b (j ∷ filter q js) (filter q js)) ≡ true
    by true e = true_both (p j) (list_all p (filter q js)) parts.0 e
    by false e = e

pub filtered_pass : (q : Job → Bool) (js : List Job) → list_all q (filter q js) ≡ true
filtered_pass q [] = refl
filtered_pass q (j ∷ js) = by (q j) refl (filtered_pass q js)
  where
    by : (b : Bool) → q j ≡ b → list_all q (filter q js) ≡ true → list_all q (cond b (j ∷ filter q js) (filter q js)) ≡ true
    by true e h = true_both (q j) (list_all q (filter q js)) e h
    by false e h = h
