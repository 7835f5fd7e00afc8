-- A job stands until a commit takes it.
use Rattle.std.specs.Prelude.{◌≡◌, ◌⊎◌, ℕ, ◌<◌, List, [], ◌∷◌, ◌++◌, Option, Some}
use Rattle.std.proofs.Common.{sym, ap, subst, ◌∙◌, inl, inr}
use Rattle.kd_base.specs.ToolsLaws.{map_some}
use Rattle.kdcs_types.specs.declared.service.Job.{Job}
use Rattle.kdcs_types.specs.declared.service.JobValue.{JobValue}
use Rattle.kdcs_types.specs.Tables.{TableRows, job_of}
use Rattle.application_types.specs.Generation.{Generated}
use Rattle.abstract_monitor.specs.Redelivery.{fate}
use Rattle.abstract_monitor.specs.State.{Application, State}
use Rattle.abstract_monitor.specs.Endings.{durable}
use Rattle.abstract_monitor.specs.Turns.{turn_of}
use Rattle.abstract_monitor.specs.Commands.{ScriptStep, Maker, turned_step, command_of, state_after}
use Rattle.abstract_monitor.specs.declared.command.Command.{Command}
use Rattle.abstract_monitor.specs.Trace.{history}
use Rattle.laws_of_states.specs.Applications.{IsApplication}
use Rattle.laws_of_states.specs.Commits.{OneGoes, Treats, QueueLaw}
use Rattle.laws_of_states.specs.EachStep.{EachStep}
use Rattle.laws_of_states.specs.EachStepLaws.{each_split}
use Rattle.laws_of_states.specs.JobLaw.{job_with}
use Rattle.laws_of_states.specs.Keeping.{Leads, HasFacts, IsScriptOf}
use Rattle.laws_of_states.specs.Steps.{CommitsOnce, TurnsCommitOnce, CommandsCommitOnce}
use Rattle.laws_of_runs.specs.ListsLaws.{after_both}
use Rattle.laws_of_states.specs.Along.{StepLaw}
use Rattle.laws_of_runs.specs.AlongLaws.{EachMeets, meets_along}
use Rattle.laws_of_runs.specs.QueueLaws.{MeetsBoth, TurnsKeepQueues, CommandsKeepQueues, IsNotLost, IsTakenAt, IsTakenIn}
use Rattle.laws_of_runs.proofs.laws_of_jobs.OldJobs.{at, value, Goes, Changes, job_meets, job_drawn}
use Rattle.laws_of_runs.proofs.laws_of_jobs.Numbers.{same_both, same_itself, same_by_fate}

-- ---- one step

-- a job is there after a step, perhaps with the value that an abnormal end of its service gave it, or the step takes it
abbrev StaysLaw : StepLaw
StaysLaw app s d = (number : ℕ) (value : JobValue) → job_of s.tables number ≡ Some value → IsNotLost app.generation d.after.tables (IsTakenAt app d) number value

module _ (app : Application) (s : State) (d : ScriptStep) (facts : HasFacts app s) where
  same_job : durable app.generation d.after.tables ≡ durable app.generation s.tables → (number : ℕ) → job_of d.after.tables number ≡ job_of s.tables number
  unfolding durable
  same_job e number = ap (λ (t : TableRows). job_of t number) e

  committed_stays : (by : Maker) → d.by ≡ Some by → QueueLaw app (durable app.generation s.tables) (durable app.generation d.after.tables) by d.acts → StaysLaw app s d
  unfolding durable
  committed_stays by is q number v e =
      let found = map_some (λ (j : Job). j.value) (at number s.tables.jobs) v e in
      let drawn = job_drawn s.tables facts.1.suits.job_numbers number found.0 found.1 in
      either found.0 drawn found.2 (job_meets app t u by d.acts q facts.1.order.jobs number drawn found.0 found.1)
    where
      t : TableRows
      t = durable app.generation s.tables

      u : TableRows
      u = durable app.generation d.after.tables

      either : (j : Job) (drawn : number < t.next_job) → j.value ≡ v
          → (value (at number u.jobs) ≡ Some j.value) ⊎ (Goes app t u by d.acts q facts.1.order.jobs number drawn j.value ⊎ Changes app t u by d.acts q facts.1.order.jobs number drawn j.value)
          → IsNotLost app.generation d.after.tables (IsTakenAt app d) number v
      either j drawn own (inl stays) = record { now = v; same = same_itself app.generation v; stands = inl (stays ∙ ap (λ (w : JobValue). Some w) own) }
      either j drawn own (inr (inl goes)) = record {
        now = v;
        same = same_itself app.generation v;
        stands = inr (record { by = by; is = is; taken = subst (λ (w : JobValue). Treats app by (OneGoes (job_with number w)) u d.acts) own goes.0; gone = goes.1 });
      }
      either j drawn own (inr (inr changes)) = record {
        now = changes.0;
        same = same_by_fate app.generation v changes.0 (ap (fate app.generation) (sym own) ∙ changes.1.0);
        stands = inl changes.1.1;
      }

  step_stays : CommitsOnce app s d → MeetsBoth app s d d.by → StaysLaw app s d
  step_stays (inl none) both = λ number value e. record { now = value; same = same_itself app.generation value; stands = inl (same_job none.tables number ∙ e) }
  step_stays (inr one) both = committed_stays one.maker one.by (subst (λ (o : Option Maker). MeetsBoth app s d o) one.by both).0

-- ---- whole runs

-- what is not lost over some tables, and then over more, is not lost over all
pub not_lost_both : (g : Generated) (u w : TableRows) (A B : Job → Type 0) (number : ℕ) (value : JobValue) → IsNotLost g u A number value
    → ((v : JobValue) → job_of u number ≡ Some v → IsNotLost g w B number v) → IsNotLost g w (λ job. A job ⊎ B job) number value
not_lost_both g u w A B number value first later = by first.stands
  where
    further : IsNotLost g w B number first.now → IsNotLost g w (λ job. A job ⊎ B job) number value
    further rest = record { now = rest.now; same = same_both g value first.now rest.now first.same rest.same; stands = either rest.stands }
      where
        either : (job_of w number ≡ Some rest.now) ⊎ B (record { number = number; value = rest.now })
            → (job_of w number ≡ Some rest.now) ⊎ (A (record { number = number; value = rest.now }) ⊎ B (record { number = number; value = rest.now }))
        either (inl stays) = inl stays
        either (inr taken) = inr (inr taken)

    by : (job_of u number ≡ Some first.now) ⊎ A (record { number = number; value = first.now }) → IsNotLost g w (λ job. A job ⊎ B job) number value
    by (inl stays) = further (later first.now stays)
    by (inr taken) = record { now = first.now; same = first.same; stands = inr (inl taken) }

module _ (app : Application) (number : ℕ) where
  all_stay : (s : State) (steps : List ScriptStep) → EachStep (StaysLaw app) s steps → (value : JobValue) → job_of s.tables number ≡ Some value
      → IsNotLost app.generation (state_after s steps).tables (IsTakenIn app steps) number value
  unfolding state_after
  all_stay s [] h value e = record { now = value; same = same_itself app.generation value; stands = inl e }
  all_stay s (d ∷ ds) h value e =
      not_lost_both app.generation d.after.tables (state_after d.after ds).tables (IsTakenAt app d) (IsTakenIn app ds) number value (h.0 number value e) (λ v k. all_stay d.after ds h.1 v k)

module _ (kept : Leads HasFacts HasFacts) (turns_once : TurnsCommitOnce) (commands_once : CommandsCommitOnce) (turns : TurnsKeepQueues) (commands : CommandsKeepQueues) where
  stays_each : EachMeets StaysLaw
  stays_each = record {
    turns = λ app s task facts. step_stays app s (turned_step (turn_of app s task)) facts (turns_once app s task) (turns app s task facts);
    commands = λ app s c facts. step_stays app s (command_of app s c) facts (commands_once app s c) (commands app s c facts);
  }

  pub no_job_is_lost : (app : Application) (s : State) (script : List Command) → IsApplication app → IsScriptOf app script → HasFacts app s
      → (first more rest : List ScriptStep) → history app s script ≡ first ++ more ++ rest
      → (number : ℕ) (value : JobValue) → job_of (state_after s first).tables number ≡ Some value
      → IsNotLost app.generation (state_after s (first ++ more)).tables (IsTakenIn app more) number value
  no_job_is_lost app s script is_app names facts first more rest e number value there =
      let all = meets_along StaysLaw kept stays_each app s script is_app names facts in
      let sooner = (each_split (StaysLaw app) s (first ++ more) rest (subst (λ (l : List ScriptStep). EachStep (StaysLaw app) s l) e all)).0 in
      let middle = (each_split (StaysLaw app) s first more sooner).1 in
      subst (λ (u : State). IsNotLost app.generation u.tables (IsTakenIn app more) number value) (sym (after_both s first more)) (all_stay app number (state_after s first) more middle value there)
