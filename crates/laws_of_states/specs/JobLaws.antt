-- Areas and the service's row leave the jobs alone.
use Rattle.std.specs.Prelude.{◌≡◌, refl, ℕ, suc, ◌+◌, Bool, true, false, cond, option_map, List, [], ◌∷◌, ◌++◌, length, Option, Some, None}
use Rattle.std.proofs.Common.{sym, ap, ◌∙◌}
use Rattle.kdcs_types.specs.declared.key.Area.{Area}
use Rattle.kdcs_types.specs.declared.key.Area.TheVariants.{Gssb, Tls, Uls}
use Rattle.kdcs_types.specs.declared.key.Key.TheVariants.{Job as JobKey}
use Rattle.kdcs_types.specs.declared.key.ServiceId.{ServiceId}
use Rattle.kdcs_types.specs.declared.key.ServiceId.TheVariants.{Dialogue, Asynchronous}
use Rattle.kdcs_types.specs.declared.service.Job.{Job}
use Rattle.kdcs_types.specs.declared.service.JobValue.{JobValue}
use Rattle.kdcs_types.specs.declared.service.Service.{Service}
use Rattle.kdcs_types.specs.Keys.{id_eq, key_eq}
use Rattle.kdcs_types.specs.Keyed.{item_at}
use Rattle.kdcs_types.specs.KeyedLaws.{item_at_with, item_at_without}
use Rattle.kdcs_types.specs.KeyLaws.{other_number}
use Rattle.kdcs_types.specs.Tables.{TableRows, job_key, with_change}
use Rattle.application_types.specs.Generation.{Generated}
use Rattle.abstract_monitor.specs.declared.draft.Draft.{Draft}
use Rattle.abstract_monitor.specs.Bytes.{Bytes}
use Rattle.abstract_monitor.specs.Redelivery.{is_tried_again, again, has_dead_letter_queue, dead_letter, fate_by, fate}
use Rattle.abstract_monitor.specs.Endings.{area_change, with_areas, with_service, without_own_job, job_change, with_own_fate, with_drafts, numbered, row_after, synchronised, broken}
use Rattle.laws_of_states.specs.Commits.{AreNumberedFrom}
use Rattle.laws_of_states.specs.JobLaw.{jobs_left, job_with, jobs_with, jobs_at_end, PointsNumberJobs, EndsDrawNoNumber}

-- the same jobs and numbers
pub record SameQueue (t u : TableRows) : Type 0 where
  pub jobs : u.jobs ≡ t.jobs
  pub next : u.next_job ≡ t.next_job
  pub clock : u.clock ≡ t.clock

same : (t : TableRows) → SameQueue t t
same t = record { jobs = refl; next = refl; clock = refl }

joined : (t u w : TableRows) → SameQueue t u → SameQueue u w → SameQueue t w
joined t u w a b = record { jobs = b.jobs ∙ a.jobs; next = b.next ∙ a.next; clock = b.clock ∙ a.clock }

area_same : (t : TableRows) (area : Area) (o : Option Bytes) → SameQueue t (with_change t (area_change area o))
area_same t (Gssb name) None = record { jobs = refl; next = refl; clock = refl }
area_same t (Gssb name) (Some bytes) = record { jobs = refl; next = refl; clock = refl }
area_same t (Tls block lterm) None = record { jobs = refl; next = refl; clock = refl }
area_same t (Tls block lterm) (Some []) = record { jobs = refl; next = refl; clock = refl }
area_same t (Tls block lterm) (Some (c ∷ cs)) = record { jobs = refl; next = refl; clock = refl }
area_same t (Uls block user) None = record { jobs = refl; next = refl; clock = refl }
area_same t (Uls block user) (Some []) = record { jobs = refl; next = refl; clock = refl }
area_same t (Uls block user) (Some (c ∷ cs)) = record { jobs = refl; next = refl; clock = refl }

pub areas_same : (ws : List (Area × Option Bytes)) (t : TableRows) → SameQueue t (with_areas t ws)
unfolding with_areas
areas_same [] t = same t
areas_same (w ∷ ws) t = joined t (with_change t (area_change w.0 w.1)) _ (area_same t w.0 w.1) (areas_same ws (with_change t (area_change w.0 w.1)))

service_same : (t : TableRows) (id : ServiceId) (row : Option Service) → SameQueue t (with_service t id row)
service_same t id None = record { jobs = refl; next = refl; clock = refl }
service_same t id (Some row) = record { jobs = refl; next = refl; clock = refl }

pub service_jobs : (t : TableRows) (id : ServiceId) (row : Option Service) → (with_service t id row).jobs ≡ t.jobs
service_jobs t id row = (service_same t id row).jobs

-- without the own job, if there is one
record LeftQueue (t u : TableRows) (id : ServiceId) (began : Option Service) : Type 0 where
  jobs : u.jobs ≡ jobs_left id began t.jobs
  next : u.next_job ≡ t.next_job
  clock : u.clock ≡ t.clock

own_left : (t : TableRows) (id : ServiceId) (began : Option Service) → LeftQueue t (without_own_job t id began) id began
own_left t (Dialogue user) began = record { jobs = refl; next = refl; clock = refl }
own_left t (Asynchronous number) (Some row) = record { jobs = refl; next = refl; clock = refl }
own_left t (Asynchronous number) None = record { jobs = refl; next = refl; clock = refl }

-- with the fate of the own job, if there is one
record FateQueue (g : Generated) (t u : TableRows) (id : ServiceId) (began : Option Service) : Type 0 where
  jobs : u.jobs ≡ jobs_at_end g id began t.jobs
  next : u.next_job ≡ t.next_job
  clock : u.clock ≡ t.clock

record WithQueue (t u : TableRows) (number : ℕ) (o : Option JobValue) : Type 0 where
  jobs : u.jobs ≡ jobs_with number o t.jobs
  next : u.next_job ≡ t.next_job
  clock : u.clock ≡ t.clock

queue_with : (t : TableRows) (number : ℕ) (o : Option JobValue) → WithQueue t (with_change t (job_change number o)) number o
queue_with t number None = record { jobs = refl; next = refl; clock = refl }
queue_with t number (Some v) = record { jobs = refl; next = refl; clock = refl }

own_fate : (g : Generated) (t : TableRows) (id : ServiceId) (began : Option Service) → FateQueue g t (with_own_fate g t id began) id began
own_fate g t (Dialogue user) began = record { jobs = refl; next = refl; clock = refl }
own_fate g t (Asynchronous number) (Some row) = record { jobs = refl; next = refl; clock = refl }
own_fate g t (Asynchronous number) None = let q = queue_with t number _ in record { jobs = q.jobs; next = q.next; clock = q.clock }

numbered_from : (ds : List Draft) (next clock : ℕ) (user lterm : Bytes) → AreNumberedFrom next (numbered next clock user lterm ds)
unfolding numbered
numbered_from [] next clock user lterm = tt
numbered_from (d ∷ ds) next clock user lterm = (refl, numbered_from ds (next + 1) clock user lterm)

numbered_length : (ds : List Draft) (next clock : ℕ) (user lterm : Bytes) → length (numbered next clock user lterm ds) ≡ length ds
unfolding numbered
numbered_length [] next clock user lterm = refl
numbered_length (d ∷ ds) next clock user lterm = ap (λ n. suc n) (numbered_length ds (next + 1) clock user lterm)

pub ends_draw_none : EndsDrawNoNumber
unfolding broken
ends_draw_none g t id x =
    let own = own_fate g t id x.began in
    let done = service_same (with_own_fate g t id x.began) id None in
    record { jobs = done.jobs ∙ own.jobs; next = done.next ∙ own.next; clock = done.clock ∙ own.clock }

pub points_number : PointsNumberJobs
unfolding synchronised
points_number g t id x o =
    let areas = areas_same x.written t in
    let left = own_left (with_areas t x.written) id x.began in
    let next = left.next ∙ areas.next in
    let clock = left.clock ∙ areas.clock in
    let u = without_own_job (with_areas t x.written) id x.began in
    let done = service_same (with_drafts u x) id (row_after g id x o) in
    record {
      jobs = done.jobs ∙ ap (λ l. l ++ numbered u.next_job u.clock x.user x.lterm x.drafts) (left.jobs ∙ ap (jobs_left id x.began) areas.jobs)
          ∙ ap (λ n. jobs_left id x.began t.jobs ++ numbered n u.clock x.user x.lterm x.drafts) next
          ∙ ap (λ c. jobs_left id x.began t.jobs ++ numbered t.next_job c x.user x.lterm x.drafts) clock;
      numbers = numbered_from x.drafts t.next_job t.clock x.user x.lterm;
      next = done.next ∙ ap (λ n. n + length x.drafts) next ∙ ap (λ n. t.next_job + n) (sym (numbered_length x.drafts t.next_job t.clock x.user x.lterm));
      clock = done.clock ∙ clock;
    }

-- ---- the jobs at an abnormal end

-- what holds of a job that is delivered again, of a dead letter where there is a dead letter queue, and of none, holds of the fate
pub of_fate : (g : Generated) (v : JobValue) (P : Option JobValue → Type 0) → P (Some (again v)) → (has_dead_letter_queue g ≡ true → P (Some (dead_letter v))) → P None → P (fate g v)
unfolding fate
of_fate g v P tried dead gone = by (is_tried_again g.limits.redelivery v.redelivered) (has_dead_letter_queue g) refl
  where
    by : (a b : Bool) → has_dead_letter_queue g ≡ b → P (fate_by a b v)
    by true b e = tried
    by false true e = dead e
    by false false e = gone

-- the job of this number is the one with the value, and the others stay
pub job_at_with : (n m : ℕ) (o : Option JobValue) (jobs : List Job)
    → item_at job_key (JobKey n) (jobs_with m o jobs) ≡ cond (key_eq (JobKey n) (JobKey m)) (option_map (job_with m) o) (item_at job_key (JobKey n) jobs)
job_at_with n m None jobs = item_at_without job_key (JobKey n) (JobKey m) jobs
job_at_with n m (Some v) jobs = item_at_with job_key (JobKey n) (job_with m v) jobs

others_with : (n m : ℕ) (o : Option JobValue) (jobs : List Job) → id_eq (Asynchronous n) (Asynchronous m) ≡ false → item_at job_key (JobKey n) (jobs_with m o jobs) ≡ item_at job_key (JobKey n) jobs
others_with n m o jobs apart = job_at_with n m o jobs ∙ ap (λ b. cond b (option_map (job_with m) o) (item_at job_key (JobKey n) jobs)) (other_number n m apart)

pub others_at_end : (g : Generated) (id : ServiceId) (began : Option Service) (n : ℕ) (jobs : List Job) → id_eq (Asynchronous n) id ≡ false
    → item_at job_key (JobKey n) (jobs_at_end g id began jobs) ≡ item_at job_key (JobKey n) jobs
others_at_end g (Dialogue user) began n jobs apart = refl
others_at_end g (Asynchronous m) (Some row) n jobs apart = refl
others_at_end g (Asynchronous m) None n jobs apart = others_with n m _ jobs apart
