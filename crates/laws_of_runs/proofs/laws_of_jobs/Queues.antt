-- Each commit meets the law on jobs and the law on services' rows.
use Rattle.std.specs.Prelude.{◌≡◌, refl, ℕ, ◌+◌, false, cond, IsSome, List, [], ◌++◌, length, Option, Some, None, option_and_then, Contains}
use Rattle.std.specs.Option.{option_map}
use Rattle.std.proofs.Common.{sym, ap, subst, ◌∙◌, append-nil, add-zero, true≢false}
use Rattle.kdcs_types.specs.declared.act.Act.{Act}
use Rattle.kdcs_types.specs.declared.key.Key.TheVariants.{Job as JobKey, Shown as ShownKey}
use Rattle.kdcs_types.specs.declared.key.ServiceId.{ServiceId}
use Rattle.kdcs_types.specs.declared.key.ServiceId.TheVariants.{Dialogue, Asynchronous}
use Rattle.kdcs_types.specs.declared.service.Ending.{Ending}
use Rattle.kdcs_types.specs.declared.service.Ending.TheVariants.{Synced, Broken, BrokenFr}
use Rattle.kdcs_types.specs.declared.service.Job.{Job}
use Rattle.kdcs_types.specs.declared.service.JobValue.{JobValue}
use Rattle.kdcs_types.specs.declared.service.Service.{Service}
use Rattle.kdcs_types.specs.declared.service.Settled.{Settled}
use Rattle.kdcs_types.specs.Keyed.{item_at, without_item}
use Rattle.kdcs_types.specs.KeyedLaws.{item_at_with}
use Rattle.kdcs_types.specs.KeyLaws.{key_eq_itself}
use Rattle.kdcs_types.specs.Keys.{id_eq}
use Rattle.kdcs_types.specs.Tables.{TableRows, job_key, shown_key, service_of, shown_of}
use Rattle.abstract_monitor.specs.declared.answer.Happened.{Happened}
use Rattle.abstract_monitor.specs.declared.answer.Happened.TheVariants.{Settles, Breaks}
use Rattle.abstract_monitor.specs.Bytes.{Bytes}
use Rattle.abstract_monitor.specs.State.{Application, OpenTransaction, State}
use Rattle.abstract_monitor.specs.Endings.{is_asynchronous, is_durable, durable, broken}
use Rattle.abstract_monitor.specs.Redelivery.{fate}
use Rattle.application_types.specs.Generation.{Generated}
use Rattle.abstract_monitor.specs.Turns.{told_here, statement_now, turn_of}
use Rattle.abstract_monitor.specs.Commands.{ScriptStep, Maker, ByTick, ByShow, ByTransaction, shown_tables, turned_step, command_of}
use Rattle.laws_of_states.specs.Commits.{AreNumberedFrom, OldJobs, AllStay, OneGoes, old_jobs, IsAmong, by_fate, by_end, TreatsOwn, Treats, MakesAtEnd, QueueLaw, row_by_ending, EndsSo, HasOwnRow}
use Rattle.laws_of_states.specs.Commits.{IsByAnother, ServiceLaw}
use Rattle.laws_of_states.specs.JobLaw.{jobs_left, jobs_with, jobs_at_end, new_jobs}
use Rattle.laws_of_states.specs.JobLaws.{points_number, ends_draw_none}
use Rattle.laws_of_states.specs.Keeping.{HasFacts}
use Rattle.laws_of_states.specs.Transactions.{HasOwnJob, IsRooted}
use Rattle.laws_of_states.specs.OwnRowLaws.{synchronised_own, synchronised_other, broken_own, broken_other}
use Rattle.laws_of_states.specs.ItemsLaws.{contains, found_in, job_number}
use Rattle.laws_of_states.specs.EndsLaws.{due_job_found, for_lterm}
use Rattle.laws_of_runs.proofs.laws_of_jobs.Breaking.{IsAbnormal, NoPoint, breaks_abnormally}
use Rattle.laws_of_runs.specs.Doings.{tables_by, Settling, Showing, Ticking, StepMakes}
use Rattle.laws_of_runs.specs.QueueLaws.{MeetsBoth, TurnsDoSo, CommandsDoSo, TurnsKeepQueues, CommandsKeepQueues}
use Rattle.laws_of_states.specs.DurableLaws.{kept_at}

-- ---- the own job of a transaction

-- what is left of the jobs: at a point the own job is gone, at an abnormal end it has met its fate
abbrev left_by : Generated → Ending → ServiceId → Option Service → List Job → List Job
left_by g Synced id began jobs = jobs_left id began jobs
left_by g (Broken cause) id began jobs = jobs_at_end g id began jobs
left_by g BrokenFr id began jobs = jobs_at_end g id began jobs

-- the same as a change of the jobs that were there
record Treated (g : Generated) (kept : Settled) (t : TableRows) (id : ServiceId) (began : Option Service) : Type 0 where
  old : OldJobs
  left : left_by g kept.ending id began t.jobs ≡ old_jobs old t.jobs
  was_there : IsAmong old t.jobs
  treats : TreatsOwn g kept id began old

module _ (g : Generated) (t : TableRows) (number : ℕ) (j : Job) (found : item_at job_key (JobKey number) t.jobs ≡ Some j) where
  among : Contains t.jobs j
  among = contains j t.jobs (found_in job_key (JobKey number) t.jobs j found)

  gone : without_item job_key (JobKey number) t.jobs ≡ old_jobs (OneGoes j) t.jobs
  gone = ap (λ n. without_item job_key (JobKey n) t.jobs) (sym (job_number number t.jobs j found))

  -- the fate of the job as a change
  fate_is : (o : Option JobValue) → jobs_with number o t.jobs ≡ old_jobs (by_fate j o) t.jobs
  fate_is None = gone
  fate_is (Some v) = ap (λ n. jobs_with n (Some v) t.jobs) (sym (job_number number t.jobs j found))

  fate_among : (o : Option JobValue) → IsAmong (by_fate j o) t.jobs
  fate_among None = among
  fate_among (Some v) = among

  found_fate : jobs_at_end g (Asynchronous number) None t.jobs ≡ old_jobs (by_fate j (fate g j.value)) t.jobs
  found_fate = ap (λ (o : Option Job). jobs_with number (option_and_then (fate g) (option_map (λ (k : Job). k.value) o)) t.jobs) found ∙ fate_is (fate g j.value)

  treated_by : (ending : Ending) → (left_by g ending (Asynchronous number) None t.jobs ≡ old_jobs (by_end g ending j) t.jobs) × IsAmong (by_end g ending j) t.jobs
  treated_by Synced = (gone, among)
  treated_by (Broken cause) = (found_fate, fate_among (fate g j.value))
  treated_by BrokenFr = (found_fate, fate_among (fate g j.value))

-- a service with a row, and a dialogue service, touch no job
all_left : (g : Generated) (ending : Ending) (id : ServiceId) (began : Option Service) (jobs : List Job) → jobs_left id began jobs ≡ jobs → jobs_at_end g id began jobs ≡ jobs → left_by g ending id began jobs ≡ jobs
all_left g Synced id began jobs point end = point
all_left g (Broken cause) id began jobs point end = end
all_left g BrokenFr id began jobs point end = end

treated : (g : Generated) (kept : Settled) (t : TableRows) (id : ServiceId) (began : Option Service) → HasOwnJob t id began → Treated g kept t id began
treated g kept t (Dialogue user) began has = record { old = AllStay; left = all_left g kept.ending (Dialogue user) began t.jobs refl refl; was_there = tt; treats = refl }
treated g kept t (Asynchronous number) (Some row) has = record { old = AllStay; left = all_left g kept.ending (Asynchronous number) (Some row) t.jobs refl refl; was_there = tt; treats = refl }
treated g kept t (Asynchronous number) None has = by (item_at job_key (JobKey number) t.jobs) refl has
  where
    by : (o : Option Job) → item_at job_key (JobKey number) t.jobs ≡ o → IsSome (option_map (λ (j : Job). j.value) o) → Treated g kept t (Asynchronous number) None
    by None e h = absurd (true≢false (sym h))
    by (Some j) e h =
        let is = treated_by g t number j e kept.ending in
        record { old = by_end g kept.ending j; left = is.0; was_there = is.1; treats = (j, (job_number number t.jobs j e, refl)) }

-- ---- the jobs that it makes

record Drawn (g : Generated) (t u : TableRows) (id : ServiceId) (x : OpenTransaction) (e : Ending) : Type 0 where
  made : List Job
  jobs : u.jobs ≡ left_by g e id x.began t.jobs ++ made
  numbers : AreNumberedFrom t.next_job made
  next : u.next_job ≡ t.next_job + length made
  makes : MakesAtEnd e made

broken_drawn : (g : Generated) (t : TableRows) (id : ServiceId) (x : OpenTransaction) (e : Ending) → IsAbnormal e → Drawn g t (broken g t id x) id x e
broken_drawn g t id x Synced h = absurd h
broken_drawn g t id x (Broken cause) h =
    let q = ends_draw_none g t id x in
    record { made = []; jobs = q.jobs ∙ sym (append-nil (jobs_at_end g id x.began t.jobs)); numbers = tt; next = q.next ∙ sym (add-zero t.next_job); makes = refl }
broken_drawn g t id x BrokenFr h =
    let q = ends_draw_none g t id x in
    record { made = []; jobs = q.jobs ∙ sym (append-nil (jobs_at_end g id x.began t.jobs)); numbers = tt; next = q.next ∙ sym (add-zero t.next_job); makes = refl }

module _ (app : Application) (t : TableRows) (id : ServiceId) (x : OpenTransaction) where
  drawn : (h : Happened) (e : Ending) → EndsSo app t id x h e → NoPoint h → Drawn app.generation t (tables_by app t id x h e) id x e
  drawn (Settles o) Synced ends breaks =
      let q = points_number app.generation t id x o in
      record { made = new_jobs t x; jobs = q.jobs; numbers = q.numbers; next = q.next; makes = tt }
  drawn (Settles o) (Broken cause) ends breaks = broken_drawn app.generation t id x (Broken cause) tt
  drawn (Settles o) BrokenFr ends breaks = broken_drawn app.generation t id x BrokenFr tt
  drawn (Breaks by) e ends breaks = broken_drawn app.generation t id x e (subst IsAbnormal (sym ends) breaks)
  drawn _ e ends breaks = absurd ends

  -- ---- the rows of services

  pub own_row : (h : Happened) (e : Ending) → service_of (tables_by app t id x h e) id ≡ row_by_ending app id x h e
  own_row (Settles o) Synced = synchronised_own app.generation t id x o
  own_row _ _ = broken_own app.generation t id x

  other_row : (h : Happened) (e : Ending) (i : ServiceId) → id_eq i id ≡ false → service_of (tables_by app t id x h e) i ≡ service_of t i
  other_row (Settles o) Synced i apart = synchronised_other app.generation t id x o i apart
  other_row _ _ i apart = broken_other app.generation t id x i apart

-- ---- durable tables

durable_row : (app : Application) (t : TableRows) (id : ServiceId) → service_of (durable app.generation t) id ≡ cond (is_durable app.generation id) (service_of t id) None
unfolding durable
durable_row app t id = kept_at (is_durable app.generation) id t.services

durable_treats : (app : Application) (u : TableRows) (acts : List Act) (by : Maker) (o : OldJobs) → Treats app by o u acts → Treats app by o (durable app.generation u) acts
unfolding durable
durable_treats app u acts (ByTick ticks) o h = h
durable_treats app u acts (ByShow lterm) o h = h
durable_treats app u acts (ByTransaction kept) o h = h

-- jobs are the same there
durable_queue : (app : Application) (t u : TableRows) (by : Maker) (acts : List Act) → QueueLaw app t u by acts → QueueLaw app (durable app.generation t) (durable app.generation u) by acts
unfolding durable
durable_queue app t u by acts q = record {
  old = q.old;
  made = q.made;
  jobs = q.jobs;
  numbers = q.numbers;
  next = q.next;
  was_there = q.was_there;
  treats = durable_treats app u acts by q.old q.treats;
  makes = q.makes;
}

-- where all rows but the own are kept
services_law : (app : Application) (s : State) (after : TableRows) (by : Maker) → HasOwnRow app s after by → ((id : ServiceId) → IsByAnother by id → service_of after id ≡ service_of s.tables id) → ServiceLaw app s after by
services_law app s after by own others = record {
  own = own;
  others = others;
  durable_rows = durable_row app after;
  durable_others = λ id another. durable_row app after id ∙ ap (λ (o : Option Service). cond (is_durable app.generation id) o None) (others id another) ∙ sym (durable_row app s.tables id);
}

-- ---- the commits

module _ (app : Application) (s : State) (after : TableRows) (kept : Settled) (acts : List Act) (m : Settling app s kept after acts) where
  abbrev h : Happened
  h = (statement_now app s kept.service m.own).1

  began_same : m.own.began ≡ kept.began
  began_same = sym (ap (λ (k : Settled). k.began) m.kept_is)

  transaction_queue : IsRooted s.tables kept.service m.own → QueueLaw app s.tables after (ByTransaction kept) acts
  transaction_queue rooted =
      let g = treated app.generation kept s.tables kept.service m.own.began rooted.job in
      let d = drawn app s.tables kept.service m.own h kept.ending m.ends (breaks_abnormally app (told_here app s kept.service m.own) (is_asynchronous kept.service) m.own) in
      record {
        old = g.old;
        made = d.made;
        jobs = ap (λ (t : TableRows). t.jobs) m.gives ∙ d.jobs ∙ ap (λ (l : List Job). l ++ d.made) g.left;
        numbers = d.numbers;
        next = ap (λ (t : TableRows). t.next_job) m.gives ∙ d.next;
        was_there = g.was_there;
        treats = subst (λ (o : Option Service). TreatsOwn app.generation kept kept.service o g.old) began_same g.treats;
        makes = d.makes;
      }

  transaction_services : ServiceLaw app s after (ByTransaction kept)
  transaction_services = services_law app s after (ByTransaction kept)
      (record {
        own = m.own;
        was_open = m.was_open;
        kept_is = m.kept_is;
        ends = m.ends;
        gives = ap (λ (t : TableRows). service_of t kept.service) m.gives ∙ own_row app s.tables kept.service m.own h kept.ending;
      })
      (λ id another. ap (λ (t : TableRows). service_of t id) m.gives ∙ other_row app s.tables kept.service m.own h kept.ending id another)

module _ (app : Application) (s : State) (lterm : Bytes) (d : ScriptStep) (m : Showing app s lterm d) where
  stands : (t : TableRows) → shown_of (shown_tables t lterm m.job) lterm ≡ Some m.job.value
  stands t =
      ap (option_map (λ (r : Bytes × JobValue). r.1)) (item_at_with shown_key (ShownKey lterm) (lterm, m.job.value) t.shown)
      ∙ ap (λ b. option_map (λ (r : Bytes × JobValue). r.1) (cond b (Some (lterm, m.job.value)) (item_at shown_key (ShownKey lterm) t.shown))) (key_eq_itself (ShownKey lterm))

  show_queue : QueueLaw app s.tables d.after.tables (ByShow lterm) d.acts
  show_queue =
      let is = due_job_found s lterm m.job m.due in
      record {
        old = OneGoes m.job;
        made = [];
        jobs = ap (λ (t : TableRows). t.jobs) m.gives ∙ sym (append-nil (without_item job_key (JobKey m.job.number) s.tables.jobs));
        numbers = tt;
        next = ap (λ (t : TableRows). t.next_job) m.gives ∙ sym (add-zero s.tables.next_job);
        was_there = contains m.job s.tables.jobs is.there;
        treats = (m.job, (refl, (for_lterm lterm m.job.value.to is.target, (ap (λ (t : TableRows). shown_of t lterm) m.gives ∙ stands s.tables, m.sends))));
        makes = refl;
      }

  show_services : ServiceLaw app s d.after.tables (ByShow lterm)
  show_services = services_law app s d.after.tables (ByShow lterm) tt (λ id another. ap (λ (t : TableRows). service_of t id) m.gives)

module _ (app : Application) (s : State) (ticks : ℕ) (d : ScriptStep) (m : Ticking s d) where
  tick_queue : QueueLaw app s.tables d.after.tables (ByTick ticks) d.acts
  tick_queue = record {
    old = AllStay;
    made = [];
    jobs = ap (λ (t : TableRows). t.jobs) m.gives ∙ sym (append-nil s.tables.jobs);
    numbers = tt;
    next = ap (λ (t : TableRows). t.next_job) m.gives ∙ sym (add-zero s.tables.next_job);
    was_there = tt;
    treats = refl;
    makes = refl;
  }

  tick_services : ServiceLaw app s d.after.tables (ByTick ticks)
  tick_services = services_law app s d.after.tables (ByTick ticks) tt (λ id another. ap (λ (t : TableRows). service_of t id) m.gives)

-- a step that does as its maker says meets both laws
meets : (app : Application) (s : State) (d : ScriptStep) → HasFacts app s → (o : Option Maker) → StepMakes app s d o → MeetsBoth app s d o
meets app s d facts None m = tt
meets app s d facts (Some (ByTick ticks)) m = (durable_queue app s.tables d.after.tables (ByTick ticks) d.acts (tick_queue app s ticks d m), tick_services app s ticks d m)
meets app s d facts (Some (ByShow lterm)) m = (durable_queue app s.tables d.after.tables (ByShow lterm) d.acts (show_queue app s lterm d m), show_services app s lterm d m)
meets app s d facts (Some (ByTransaction kept)) m = (
  durable_queue app s.tables d.after.tables (ByTransaction kept) d.acts (transaction_queue app s d.after.tables kept d.acts m (facts.0.rooted kept.service m.own m.was_open)),
  transaction_services app s d.after.tables kept d.acts m,
)

pub turns_keep_queues : TurnsDoSo → TurnsKeepQueues
turns_keep_queues does app s task facts = meets app s (turned_step (turn_of app s task)) facts (turned_step (turn_of app s task)).by (does app s task)

pub commands_keep_queues : CommandsDoSo → CommandsKeepQueues
commands_keep_queues does app s c facts = meets app s (command_of app s c) facts (command_of app s c).by (does app s c)
