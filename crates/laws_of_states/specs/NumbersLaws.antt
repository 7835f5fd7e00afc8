-- Numbers of open services, and where the services of jobs are not.
use Rattle.std.specs.Prelude.{◌≡◌, refl, ℕ, ◌<◌, Bool, true, false, not, IsTrue, IsSome, Option, Some, None, is_some, nat_lt}
use Rattle.std.proofs.Common.{sym, ap, subst, ◌∙◌, true≢false}
use Rattle.std.proofs.lemmas.Bool.{ltb-true}
use Rattle.std.specs.FinMap.{find}
use Rattle.std.specs.List.{list_all}
use Rattle.std.specs.Option.{option_map}
use Rattle.kdcs_types.specs.declared.key.Key.TheVariants.{Job as JobKey, Service as ServiceKey}
use Rattle.kdcs_types.specs.declared.key.ServiceId.{ServiceId}
use Rattle.kdcs_types.specs.declared.key.ServiceId.TheVariants.{Asynchronous}
use Rattle.kdcs_types.specs.declared.service.Job.{Job}
use Rattle.kdcs_types.specs.declared.service.Service.{Service}
use Rattle.kdcs_types.specs.Keyed.{item_at}
use Rattle.kdcs_types.specs.KeyedLaws.{found_key, found_passes}
use Rattle.kdcs_types.specs.Keys.{id_cmp}
use Rattle.kdcs_types.specs.Tables.{TableRows, job_key, job_of, service_key, service_of}
use Rattle.abstract_monitor.specs.Sessions.{is_running}
use Rattle.abstract_monitor.specs.State.{Application, State}
use Rattle.laws_of_states.specs.Facts.{IsSoundState}
use Rattle.laws_of_states.specs.Suits.{number_is_below}
use Rattle.laws_of_states.specs.Transactions.{HasOwnJob, IsRooted}
use Rattle.laws_of_states.specs.SoundRowsLaws.{GoodRows, good}
use Rattle.laws_of_states.specs.CommitLaws.{OpenNumbersAreDrawn, ClosedAreNotPlaced, FreeJobsAreNotPlaced, JobsHaveNoRow}

good_rows : (app : Application) (s : State) → IsSoundState app s → GoodRows app.generation s.tables
good_rows app s sound = good app.generation s.tables (record { order = sound.order; suits = sound.suits; rows = sound.rows })

-- ---- jobs

job_number : (j : Job) (number : ℕ) → job_key j ≡ JobKey number → j.number ≡ number
job_number j number e = cc

-- what holds of all jobs holds of the number of one
job_passes : (p : ℕ → Bool) (t : TableRows) (number : ℕ) → IsTrue (list_all (λ (j : Job). p j.number) t.jobs) → IsSome (job_of t number) → IsTrue (p number)
job_passes p t number all = by (item_at job_key (JobKey number) t.jobs) refl
  where
    by : (o : Option Job) → item_at job_key (JobKey number) t.jobs ≡ o → IsSome (option_map (λ (j : Job). j.value) o) → IsTrue (p number)
    by None e h = absurd (true≢false (sym h))
    by (Some j) e h =
        subst (λ n. IsTrue (p n)) (job_number j number (found_key job_key (JobKey number) t.jobs j e)) (found_passes job_key (λ (k : Job). p k.number) (JobKey number) t.jobs j all e)

none : {A : Type 0} (o : Option A) → not (is_some o) ≡ true → o ≡ None
none None h = refl
none (Some x) h = absurd (true≢false (sym h))

pub job_has_no_row : JobsHaveNoRow
job_has_no_row app s sound number value e =
    none (service_of s.tables (Asynchronous number))
    (job_passes (λ n. not (is_some (service_of s.tables (Asynchronous n)))) s.tables number (good_rows app s sound).numbers.2 (ap is_some e))

-- ---- the numbers of open services

row_drawn : (app : Application) (s : State) → IsSoundState app s → (number : ℕ) (row : Service) → service_of s.tables (Asynchronous number) ≡ Some row → number < s.tables.next_job
row_drawn app s sound number row e =
    let id : row.id ≡ Asynchronous number = under row (found_key service_key (ServiceKey (Asynchronous number)) s.tables.services row e) in
    let below = found_passes service_key (λ (r : Service). number_is_below s.tables.next_job r.id) (ServiceKey (Asynchronous number)) s.tables.services row (good_rows app s sound).numbers.1 e in
    ltb-true number s.tables.next_job (subst (λ (i : ServiceId). IsTrue (number_is_below s.tables.next_job i)) id below)
  where
    under : (r : Service) → service_key r ≡ ServiceKey (Asynchronous number) → r.id ≡ Asynchronous number
    under r same = cc

pub open_drawn : OpenNumbersAreDrawn
open_drawn app s c sound number x e = by x.began root.began root.job
  where
    root : IsRooted s.tables (Asynchronous number) x
    root = c.rooted (Asynchronous number) x e

    by : (began : Option Service) → service_of s.tables (Asynchronous number) ≡ began → HasOwnJob s.tables (Asynchronous number) began → number < s.tables.next_job
    by None is job = ltb-true number s.tables.next_job (job_passes (λ n. nat_lt n s.tables.next_job) s.tables number (good_rows app s sound).numbers.0 job)
    by (Some row) is job = row_drawn app s sound number row is

-- ---- services that are not open

pub closed_not_placed : ClosedAreNotPlaced
closed_not_placed app s c id closed = by (is_running s id) refl
  where
    by : (b : Bool) → is_running s id ≡ b → b ≡ false
    by true running = absurd (true≢false (sym (c.placed_open id running) ∙ ap is_some closed))
    by false rests = refl

pub free_not_placed : FreeJobsAreNotPlaced
free_not_placed app s c job free = closed_not_placed app s c (Asynchronous job.number) (none (find id_cmp (Asynchronous job.number) s.active) free)
