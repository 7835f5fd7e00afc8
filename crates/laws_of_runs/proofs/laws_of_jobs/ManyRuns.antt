-- Runs one after another keep jobs and numbers.
use Rattle.std.specs.Prelude.{◌≡◌, ◌⊎◌, refl, ℕ, List, [], ◌∷◌, Some}
use Rattle.std.proofs.Common.{sym, ap, subst, ◌∙◌, inl, inr}
use Rattle.kdcs_types.specs.declared.service.Job.{Job}
use Rattle.kdcs_types.specs.declared.service.JobValue.{JobValue}
use Rattle.kdcs_types.specs.Tables.{TableRows, IsSortedTables, job_of}
use Rattle.application_types.specs.Generation.{Generated}
use Rattle.abstract_monitor.specs.Endings.{durable}
use Rattle.abstract_monitor.specs.State.{Application}
use Rattle.abstract_monitor.specs.Commands.{started, state_after}
use Rattle.laws_of_states.specs.Applications.{IsApplication}
use Rattle.laws_of_states.specs.DurableLaws.{durable_again, durable_service}
use Rattle.laws_of_states.specs.Suits.{Suits}
use Rattle.laws_of_runs.specs.RunLaws.{StartsHaveFacts}
use Rattle.laws_of_runs.specs.ManyRuns.{StoppedRun, IsRunFrom, AreRunsFrom, left_by, left_by_all, TookJob, OneTookJob, RunsKeepJobs, AllRunsKeepJobs}
use Rattle.laws_of_runs.specs.QueueLaws.{IsNotLost, KeepsJobs, IsTakenIn, JobsAreDoneOnce}
use Rattle.laws_of_runs.specs.ResumeLaws.{CutResumes, CutsResume}
use Rattle.laws_of_runs.proofs.laws_of_jobs.Kept.{not_lost_both}
use Rattle.laws_of_runs.proofs.laws_of_jobs.Numbers.{numbers_joined, same_itself, same_numbers}
use Rattle.laws_of_states.specs.TablesStayLaws.{started_tables}

-- ---- one run

-- what outlives a stop has all jobs, numbers and asynchronous services
stored_jobs : (g : Generated) (t u : TableRows) (IsTaken : Job → Type 0) → KeepsJobs g t u IsTaken → KeepsJobs g t (durable g u) IsTaken
unfolding durable
stored_jobs g t u IsTaken k = record {
  numbers = record { next = k.numbers.next; drawn = k.numbers.drawn };
  lost = λ number value there. let n = k.lost number value there in record { now = n.now; same = n.same; stands = n.stands };
  doubled = λ number over. let o = k.doubled number over in record { drawn = o.drawn; job = o.job; row = durable_service g u number ∙ o.row };
}

module _ (starts : StartsHaveFacts) (cuts : CutsResume) (jobs : JobsAreDoneOnce) (app : Application) (is_app : IsApplication app) where
  module _ (t : TableRows) (run : StoppedRun) (order : IsSortedTables t) (suits : Suits app.generation t) (is : IsRunFrom app t run) where
    cut : CutResumes app t run.script run.done
    cut = cuts app t run.script is_app is.names order suits run.done is.left is.whole

    abbrev left : TableRows
    left = left_by app t run

    left_order : IsSortedTables left
    left_order = subst IsSortedTables (started_tables app left) cut.facts.1.order

    lasting : durable app.generation left ≡ left
    lasting = ap (durable app.generation) cut.stored ∙ durable_again app.generation (state_after (started app t) cut.steps.first).tables ∙ sym cut.stored

    left_suits : Suits app.generation left
    left_suits = subst (Suits app.generation) (ap (durable app.generation) (started_tables app left) ∙ lasting) cut.facts.1.suits

    in_steps : KeepsJobs app.generation t (state_after (started app t) cut.steps.first).tables (IsTakenIn app cut.steps.first)
    unfolding started state_after
    in_steps = jobs app (started app t) run.script is_app is.names (starts app t is_app order suits) [] cut.steps.first cut.steps.rest cut.steps.whole

    taken_is : (o : KeepsJobs app.generation t left (IsTakenIn app cut.steps.first)) → KeepsJobs app.generation t left (TookJob app t run)
    taken_is o = record { numbers = o.numbers; lost = λ number value there. by number value (o.lost number value there); doubled = o.doubled }
      where
        either : (number : ℕ) (now : JobValue) → (job_of left number ≡ Some now) ⊎ IsTakenIn app cut.steps.first (record { number = number; value = now })
            → (job_of left number ≡ Some now) ⊎ TookJob app t run (record { number = number; value = now })
        either number now (inl stays) = inl stays
        either number now (inr taken) = inr (record { steps = cut.steps; taken = taken })

        by : (number : ℕ) (value : JobValue) → IsNotLost app.generation left (IsTakenIn app cut.steps.first) number value → IsNotLost app.generation left (TookJob app t run) number value
        by number value n = record { now = n.now; same = n.same; stands = either number n.now n.stands }

    one_run : KeepsJobs app.generation t left (TookJob app t run)
    one_run = taken_is (subst (λ (w : TableRows). KeepsJobs app.generation t w (IsTakenIn app cut.steps.first)) (sym cut.stored) (stored_jobs app.generation t _ _ in_steps))

  -- ---- all runs

  none_kept : (t : TableRows) (IsTaken : Job → Type 0) → KeepsJobs app.generation t t IsTaken
  none_kept t IsTaken = record {
    numbers = same_numbers app.generation t t refl;
    lost = λ number value there. record { now = value; same = same_itself app.generation value; stands = inl there };
    doubled = λ number over. over;
  }

  both_keep : (t u w : TableRows) (A B : Job → Type 0) → KeepsJobs app.generation t u A → KeepsJobs app.generation u w B → KeepsJobs app.generation t w (λ job. A job ⊎ B job)
  both_keep t u w A B a b = record {
    numbers = numbers_joined app.generation t u w a.numbers b.numbers;
    lost = λ number value there. not_lost_both app.generation u w A B number value (a.lost number value there) (b.lost number);
    doubled = λ number over. b.doubled number (a.doubled number over);
  }

  runs_keep : (t : TableRows) (runs : List StoppedRun) → IsSortedTables t → Suits app.generation t → AreRunsFrom app t runs → RunsKeepJobs app t runs
  runs_keep t [] order suits are = record { jobs = none_kept t (OneTookJob app t []); order = order; suits = suits }
  runs_keep t (run ∷ runs) order suits are =
      let u = left_by app t run in
      let rest = runs_keep u runs (left_order t run order suits are.0) (left_suits t run order suits are.0) are.1 in
      record {
        jobs = both_keep t u (left_by_all app u runs) (TookJob app t run) (OneTookJob app u runs) (one_run t run order suits are.0) rest.jobs;
        order = rest.order;
        suits = rest.suits;
      }

pub all_runs_keep_jobs : StartsHaveFacts → CutsResume → JobsAreDoneOnce → AllRunsKeepJobs
all_runs_keep_jobs starts cuts jobs app t runs is_app order suits are = runs_keep starts cuts jobs app is_app t runs order suits are
