-- No job number is drawn twice, and a job that is done is never done again.
use Rattle.std.specs.Prelude.{◌≡◌, ◌⊎◌, refl, ℕ, zero, suc, ◌<◌, ◌≤◌, Bool, true, false, IsTrue, IsSome, List, [], ◌∷◌, ◌++◌, Option, Some, None, is_some}
use Rattle.std.proofs.Common.{sym, ap, subst, ◌∙◌, inl, inr, arith, true≢false, le_refl}
use Rattle.kdcs_types.specs.declared.act.Act.{Act}
use Rattle.kdcs_types.specs.declared.key.ServiceId.{ServiceId}
use Rattle.kdcs_types.specs.declared.key.ServiceId.TheVariants.{Asynchronous}
use Rattle.kdcs_types.specs.declared.service.Job.{Job}
use Rattle.kdcs_types.specs.declared.service.JobValue.{JobValue}
use Rattle.kdcs_types.specs.declared.service.Service.{Service}
use Rattle.kdcs_types.specs.Keyed.{ascends}
use Rattle.kdcs_types.specs.KeyLaws.{id_eq_same}
use Rattle.kdcs_types.specs.Keys.{id_eq}
use Rattle.kdcs_types.specs.Tables.{TableRows, job_key, job_of, service_of}
use Rattle.abstract_monitor.specs.State.{Application, State}
use Rattle.application_types.specs.Generation.{Generated}
use Rattle.abstract_monitor.specs.Redelivery.{fate}
use Rattle.abstract_monitor.specs.Endings.{durable}
use Rattle.abstract_monitor.specs.Turns.{turn_of}
use Rattle.abstract_monitor.specs.Commands.{ScriptStep, Maker, ByTick, ByShow, ByTransaction, turned_step, command_of, state_after}
use Rattle.laws_of_states.specs.Commits.{QueueLaw, ServiceLaw}
use Rattle.abstract_monitor.specs.declared.command.Command.{Command}
use Rattle.abstract_monitor.specs.Trace.{history}
use Rattle.laws_of_states.specs.Applications.{IsApplication}
use Rattle.laws_of_states.specs.Keeping.{Leads, HasFacts, IsScriptOf}
use Rattle.laws_of_states.specs.Steps.{CommitsOnce, TurnsCommitOnce, CommandsCommitOnce}
use Rattle.laws_of_states.specs.Transactions.{HasOwnJob}
use Rattle.laws_of_states.specs.EachStep.{EachStep}
use Rattle.laws_of_states.specs.EachStepLaws.{each_split}
use Rattle.laws_of_runs.specs.ListsLaws.{after_both}
use Rattle.laws_of_states.specs.Along.{StepLaw}
use Rattle.laws_of_runs.specs.AlongLaws.{EachMeets, meets_along}
use Rattle.laws_of_runs.specs.QueueLaws.{MeetsBoth, TurnsKeepQueues, CommandsKeepQueues, HasAfterEnds, IsSameJob, IsNoOther, KeepsNumbers, IsOver}
use Rattle.laws_of_runs.proofs.laws_of_jobs.OldJobs.{at, value, no_job_comes, Goes, Changes, job_meets}
use Rattle.laws_of_states.specs.DurableLaws.{durable_service}

-- ---- the same job

became_both : (g : Generated) (n m : ℕ) (u v w : JobValue) → HasAfterEnds g n u v → HasAfterEnds g m v w → IsSameJob g u w
became_both g zero m u v w a b = record { ends = m; is = subst (λ (x : JobValue). HasAfterEnds g m x w) (sym a) b }
became_both g (suc n) m u v w a b = let rest = became_both g n m a.0 v w a.1.1 b in record { ends = suc rest.ends; is = (a.0, (a.1.0, rest.is)) }

pub same_both : (g : Generated) (u v w : JobValue) → IsSameJob g u v → IsSameJob g v w → IsSameJob g u w
same_both g u v w a b = became_both g a.ends b.ends u v w a.is b.is

pub same_itself : (g : Generated) (v : JobValue) → IsSameJob g v v
same_itself g v = record { ends = 0; is = refl }

pub same_by_fate : (g : Generated) (v w : JobValue) → fate g v ≡ Some w → IsSameJob g v w
same_by_fate g v w e = record { ends = 1; is = (w, (e, refl)) }

no_other_itself : (g : Generated) (o : Option JobValue) → IsNoOther g o o
no_other_itself g None = tt
no_other_itself g (Some v) = same_itself g v

no_other_none : (g : Generated) (o p : Option JobValue) → p ≡ None → IsNoOther g o p
no_other_none g o None e = tt
no_other_none g o (Some w) e = absurd cc

no_other_both : (g : Generated) (o p q : Option JobValue) → IsNoOther g o p → IsNoOther g p q → IsNoOther g o q
no_other_both g o p None a b = tt
no_other_both g o None (Some w) a b = absurd b
no_other_both g None (Some v) (Some w) a b = absurd a
no_other_both g (Some u) (Some v) (Some w) a b = same_both g u v w a b

-- ---- one step

queue_numbers : (app : Application) (t u : TableRows) (by : Maker) (acts : List Act) → QueueLaw app t u by acts → IsTrue (ascends job_key t.jobs) → KeepsNumbers app.generation t u
queue_numbers app t u by acts q sorted = record {
  next = let n = q.next in omega arith;
  drawn = λ n less. either n less (at n t.jobs) refl;
}
  where
    g : Generated
    g = app.generation

    meets : (n : ℕ) (less : n < t.next_job) (j : Job) → (value (at n u.jobs) ≡ Some j.value) ⊎ (Goes app t u by acts q sorted n less j.value ⊎ Changes app t u by acts q sorted n less j.value) → IsNoOther g (Some j.value) (value (at n u.jobs))
    meets n less j (inl stays) = subst (λ (o : Option JobValue). IsNoOther g (Some j.value) o) (sym stays) (same_itself g j.value)
    meets n less j (inr (inl goes)) = no_other_none g (Some j.value) (value (at n u.jobs)) goes.1
    meets n less j (inr (inr changes)) = subst (λ (o : Option JobValue). IsNoOther g (Some j.value) o) (sym changes.1.1) (same_by_fate g j.value changes.0 changes.1.0)

    either : (n : ℕ) → n < t.next_job → (o : Option Job) → at n t.jobs ≡ o → IsNoOther g (value o) (value (at n u.jobs))
    either n less None e = no_other_none g None (value (at n u.jobs)) (ap value (no_job_comes app t u by acts q sorted n less e))
    either n less (Some j) e = meets n less j (job_meets app t u by acts q sorted n less j e)

durable_numbers : (app : Application) (t u : TableRows) → KeepsNumbers app.generation (durable app.generation t) (durable app.generation u) → KeepsNumbers app.generation t u
unfolding durable
durable_numbers app t u k = record { next = k.next; drawn = k.drawn }

pub same_numbers : (g : Generated) (t u : TableRows) → u ≡ t → KeepsNumbers g t u
same_numbers g t u e = record {
  next = subst (λ (w : TableRows). t.next_job ≤ w.next_job) (sym e) (le_refl t.next_job);
  drawn = λ n less. subst (λ (w : TableRows). IsNoOther g (job_of t n) (job_of w n)) (sym e) (no_other_itself g (job_of t n));
}

module _ (app : Application) (s : State) (d : ScriptStep) where
  both_as : (maker : Maker) → d.by ≡ Some maker → MeetsBoth app s d d.by → MeetsBoth app s d (Some maker)
  both_as maker e both = subst (λ (o : Option Maker). MeetsBoth app s d o) e both

  durable_jobs : HasFacts app s → IsTrue (ascends job_key (durable app.generation s.tables).jobs)
  unfolding durable
  durable_jobs facts = facts.1.order.jobs

  step_numbers : HasFacts app s → CommitsOnce app s d → MeetsBoth app s d d.by → KeepsNumbers app.generation s.tables d.after.tables
  step_numbers facts (inl none) both = durable_numbers app s.tables d.after.tables (same_numbers app.generation _ _ none.tables)
  step_numbers facts (inr one) both = durable_numbers app s.tables d.after.tables (queue_numbers app _ _ one.maker d.acts (both_as one.maker one.by both).0 (durable_jobs facts))

  module _ (facts : HasFacts app s) (number : ℕ) (over : IsOver s.tables number) where
    abbrev id : ServiceId
    id = Asynchronous number

    owns_none : (i : ServiceId) (began : Option Service) → i ≡ id → began ≡ None → HasOwnJob s.tables i began → ⊥
    owns_none i began same none has =
        let own : IsSome (job_of s.tables number) = subst (λ (o : Option Service). HasOwnJob s.tables id o) none (subst (λ (j : ServiceId). HasOwnJob s.tables j began) same has) in
        true≢false (sym own ∙ ap is_some over.job)

    committed_row : (maker : Maker) → ServiceLaw app s d.after.tables maker → service_of d.after.tables id ≡ service_of s.tables id
    committed_row (ByTick ticks) law = law.others id tt
    committed_row (ByShow lterm) law = law.others id tt
    committed_row (ByTransaction kept) law = by (id_eq id kept.service) refl
      where
        by : (b : Bool) → id_eq id kept.service ≡ b → service_of d.after.tables id ≡ service_of s.tables id
        by false e = law.others id e
        by true e =
            let same = sym (id_eq_same id kept.service e) in
            let rooted = facts.0.rooted kept.service law.own.own law.own.was_open in
            absurd (owns_none kept.service law.own.own.began same (sym rooted.began ∙ ap (λ (i : ServiceId). service_of s.tables i) same ∙ over.row) rooted.job)

    same_row : CommitsOnce app s d → MeetsBoth app s d d.by → service_of d.after.tables id ≡ service_of s.tables id
    same_row (inl none) both = sym (durable_service app.generation d.after.tables number) ∙ ap (λ (t : TableRows). service_of t id) none.tables ∙ durable_service app.generation s.tables number
    same_row (inr one) both = committed_row one.maker (both_as one.maker one.by both).1

    none_left : (o : Option JobValue) → IsNoOther app.generation (job_of s.tables number) o → o ≡ None
    none_left None none = refl
    none_left (Some w) no_other = absurd (subst (λ (o : Option JobValue). IsNoOther app.generation o (Some w)) over.job no_other)

    stays_over : CommitsOnce app s d → MeetsBoth app s d d.by → IsOver d.after.tables number
    stays_over once both =
        let k = step_numbers facts once both in
        record {
          drawn = let a = over.drawn in let b = k.next in omega arith;
          job = none_left (job_of d.after.tables number) (k.drawn number over.drawn);
          row = same_row once both ∙ over.row;
        }

-- ---- whole runs

-- what each step makes of tables and what composes, all of them make
module _ (R : TableRows → TableRows → Type 0) (same : (t : TableRows) → R t t) (joined : (t u w : TableRows) → R t u → R u w → R t w) where
  abbrev Made : State → ScriptStep → Type 0
  Made s d = R s.tables d.after.tables

  all_make : (s : State) (steps : List ScriptStep) → EachStep Made s steps → R s.tables (state_after s steps).tables
  unfolding state_after
  all_make s [] h = same s.tables
  all_make s (d ∷ ds) h = joined s.tables d.after.tables (state_after d.after ds).tables h.0 (all_make d.after ds h.1)

  between : (s : State) (steps first more rest : List ScriptStep) → steps ≡ first ++ more ++ rest → EachStep Made s steps → R (state_after s first).tables (state_after s (first ++ more)).tables
  between s steps first more rest e h =
      let sooner = (each_split Made s (first ++ more) rest (subst (λ (l : List ScriptStep). EachStep Made s l) e h)).0 in
      let middle = (each_split Made s first more sooner).1 in
      subst (λ (u : State). R (state_after s first).tables u.tables) (sym (after_both s first more)) (all_make (state_after s first) more middle)

pub numbers_joined : (g : Generated) (t u w : TableRows) → KeepsNumbers g t u → KeepsNumbers g u w → KeepsNumbers g t w
numbers_joined g t u w a b = record {
  next = let p = a.next in let q = b.next in omega arith;
  drawn = λ n less. no_other_both g (job_of t n) (job_of u n) (job_of w n) (a.drawn n less) (b.drawn n (let p = a.next in omega arith));
}

-- what is over stays over
abbrev pub StaysOver : TableRows → TableRows → Type 0
StaysOver t u = (number : ℕ) → IsOver t number → IsOver u number

-- from any state of a run to any later one
abbrev pub LeadsAlong : (TableRows → TableRows → Type 0) → Type 0
LeadsAlong R =
    (app : Application) (s : State) (script : List Command) → IsApplication app → IsScriptOf app script → HasFacts app s
    → (first more rest : List ScriptStep) → history app s script ≡ first ++ more ++ rest → R (state_after s first).tables (state_after s (first ++ more)).tables

abbrev NumbersLaw : StepLaw
NumbersLaw app s d = KeepsNumbers app.generation s.tables d.after.tables

abbrev OverLaw : StepLaw
OverLaw app s d = StaysOver s.tables d.after.tables

module _ (kept : Leads HasFacts HasFacts) (turns_once : TurnsCommitOnce) (commands_once : CommandsCommitOnce) (turns : TurnsKeepQueues) (commands : CommandsKeepQueues) where
  numbers_each : EachMeets NumbersLaw
  numbers_each = record {
    turns = λ app s task facts. step_numbers app s (turned_step (turn_of app s task)) facts (turns_once app s task) (turns app s task facts);
    commands = λ app s c facts. step_numbers app s (command_of app s c) facts (commands_once app s c) (commands app s c facts);
  }

  over_each : EachMeets OverLaw
  over_each = record {
    turns = λ app s task facts number over. stays_over app s (turned_step (turn_of app s task)) facts number over (turns_once app s task) (turns app s task facts);
    commands = λ app s c facts number over. stays_over app s (command_of app s c) facts number over (commands_once app s c) (commands app s c facts);
  }

  pub numbers_are_drawn_once : (app : Application) (s : State) (script : List Command) → IsApplication app → IsScriptOf app script → HasFacts app s
      → (first more rest : List ScriptStep) → history app s script ≡ first ++ more ++ rest → KeepsNumbers app.generation (state_after s first).tables (state_after s (first ++ more)).tables
  numbers_are_drawn_once app s script is_app names facts first more rest e =
      between (KeepsNumbers app.generation) (λ t. same_numbers app.generation t t refl) (numbers_joined app.generation) s _ first more rest e (meets_along NumbersLaw kept numbers_each app s script is_app names facts)

  pub jobs_stay_over : LeadsAlong StaysOver
  jobs_stay_over app s script is_app names facts first more rest e =
      between StaysOver (λ t number over. over) (λ t u w a b number over. b number (a number over)) s _ first more rest e (meets_along OverLaw kept over_each app s script is_app names facts)
