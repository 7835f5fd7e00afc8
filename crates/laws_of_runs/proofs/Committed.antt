-- Each commit of a transaction is that of its record, run in one go on the durable tables.
use Rattle.std.specs.Prelude.{◌≡◌, refl, ℕ, ◌+◌, Bool, true, false, List, [], ◌∷◌, ◌&&◌, nat_le, filter, filter_map, is_some, IfSome, Option, Some, None}
use Rattle.std.proofs.Common.{sym, ap, ◌∙◌, subst, ⊎_elim, true≢false}
use Rattle.std.specs.FinMap.{find}
use Rattle.kdcs_types.specs.declared.call.Cause.{Cause}
use Rattle.kdcs_types.specs.declared.key.ServiceId.{ServiceId}
use Rattle.kdcs_types.specs.declared.key.ServiceId.TheVariants.{Dialogue, Asynchronous}
use Rattle.kdcs_types.specs.declared.service.Ending.{Ending}
use Rattle.kdcs_types.specs.declared.service.Job.{Job}
use Rattle.kdcs_types.specs.declared.service.JobValue.{JobValue}
use Rattle.kdcs_types.specs.declared.service.Service.{Service}
use Rattle.kdcs_types.specs.declared.service.Settled.{Settled}
use Rattle.kdcs_types.specs.Keys.{id_cmp}
use Rattle.kdcs_types.specs.Tables.{TableRows, service_of, shown_of}
use Rattle.abstract_monitor.specs.declared.answer.Happened.TheVariants.{Settles, Breaks}
use Rattle.abstract_monitor.specs.declared.answer.LockAnswer.TheVariants.{Granted}
use Rattle.abstract_monitor.specs.declared.input_use.Use.{Use}
use Rattle.abstract_monitor.specs.declared.input_use.Use.TheVariants.{Sign, Display, Output, Again}
use Rattle.abstract_monitor.specs.declared.outcome.Outcome.{Outcome}
use Rattle.abstract_monitor.specs.Bytes.{Bytes, bytes_cmp}
use Rattle.abstract_monitor.specs.Calls.{Told}
use Rattle.abstract_monitor.specs.declared.command.Command.TheVariants.{Input, Tick, Run, Turn, Drop, Print, PrintLast, Restart}
use Rattle.abstract_monitor.specs.Commands.{ScriptStep, maker_of, state_after, lterm_at, user_at, signed_on_by, show_by, show_next, show_again_by, due_for, display, last_by, used, use_now, tick_by}
use Rattle.abstract_monitor.specs.Commands.{drop_by, command_of, Maker, ByTick, ByShow, ByTransaction, is_for, shown_tables, started, turned_step}
use Rattle.abstract_monitor.specs.Endings.{synchronised, broken, durable, refusal}
use Rattle.abstract_monitor.specs.State.{Application, OpenTransaction, Session, State}
use Rattle.abstract_monitor.specs.Statements.{kept_record}
use Rattle.abstract_monitor.specs.Trace.{history}
use Rattle.abstract_monitor.specs.Turns.{told_here, statement_now, turn_of}
use Rattle.laws_of_states.specs.Commits.{IsAtomicCommit}
use Rattle.laws_of_states.specs.Replay.{settled_as, IsReplayed}
use Rattle.laws_of_states.specs.Along.{MeetsAlong}
use Rattle.laws_of_states.specs.AlongLaws.{meets_along}
use Rattle.laws_of_states.specs.EachStep.{EachStep}
use Rattle.laws_of_states.specs.EachStepLaws.{each_split}
use Rattle.laws_of_runs.specs.RunLaws.{HistoriesCommitOnce}
use Rattle.laws_of_states.specs.Steps.{CommitsOnce, MakesNoCommit, MakesOneCommit}
use Rattle.laws_of_states.specs.ItemsLaws.{contains}
use Rattle.laws_of_states.specs.EndsLaws.{due_job_found, for_lterm}
use Rattle.laws_of_states.specs.RowsLaws.{least_passes, filtered_pass}
use Rattle.abstract_monitor.specs.Picks.{free_jobs}
use Rattle.kd_base.specs.ToolsLaws.{both_true}
use Rattle.std.proofs.lemmas.Bool.{leb-true}
use Rattle.laws_of_states.specs.Transactions.{HasOwnJob, IsRooted}
use Rattle.laws_of_runs.specs.Replays.{HasSameJob, LookAlike}
use Rattle.laws_of_runs.specs.SerialRuns.{Shows, MakeInTurn, makers_of, Makes, MakesItsCommit, TurnsMakeTheirCommits, CommandsMakeTheirCommits, ScriptsAreSerialRuns, StopsLeaveSerialRuns}
use Rattle.laws_of_runs.specs.SerialLaws.{HasReplays, StepsKeepReplays, IsSerialBy, IsSerialStep, TurnsCommitSerially, CommandsCommitSerially, HistoriesAreSerial}
use Rattle.laws_of_runs.proofs.Along.{replayed_over}
use Rattle.laws_of_runs.proofs.Durable.{base, base_sorted, base_durable, base_service, base_content, base_job, synchronised_alike, broken_alike}
use Rattle.laws_of_runs.proofs.Ends.{breaks_atomic, settles_atomic}
use Rattle.laws_of_runs.proofs.Settling.{IfSettled, turn_ends_so}

-- ---- one transaction

-- tables with the same job have the service's job too
own_job_too : (t u : TableRows) (id : ServiceId) (began : Option Service) → HasSameJob t u id began → HasOwnJob t id began → HasOwnJob u id began
own_job_too t u (Dialogue user) began same has = tt
own_job_too t u (Asynchronous number) (Some row) same has = tt
own_job_too t u (Asynchronous number) None same has = ap is_some same ∙ has

module _ (app : Application) (s : State) (h : HasReplays app s) (id : ServiceId) (x : OpenTransaction) (is : find id_cmp id s.active ≡ Some x) where
  abbrev lasting : TableRows → TableRows
  lasting t = durable app.generation t

  -- the tables from which its record starts
  abbrev before : TableRows
  before = base app.generation s.tables h.0.1.order (x.first ∷ x.lterm ∷ x.inputs) x.notes x.statements id x.began

  began : service_of s.tables id ≡ x.began
  began = (h.0.0.rooted id x is).began

  rooted_before : IsRooted before id x
  rooted_before = record {
    began = base_service app.generation s.tables h.0.1.order (x.first ∷ x.lterm ∷ x.inputs) x.notes x.statements id x.began began;
    job = own_job_too s.tables before id x.began (base_job app.generation s.tables h.0.1.order (x.first ∷ x.lterm ∷ x.inputs) x.notes x.statements id x.began) (h.0.0.rooted id x is).job;
  }

  same_part : lasting s.tables ≡ lasting before
  same_part = sym (base_durable app.generation s.tables h.0.1.order (x.first ∷ x.lterm ∷ x.inputs) x.notes x.statements id x.began began)

  alike : LookAlike s.tables before id x []
  alike = record {
    areas = λ area held. ap granted (base_content app.generation s.tables h.0.1.order (x.first ∷ x.lterm ∷ x.inputs) x.notes x.statements id x.began area);
    job = base_job app.generation s.tables h.0.1.order (x.first ∷ x.lterm ∷ x.inputs) x.notes x.statements id x.began;
  }
    where
      granted : Option Bytes → Told
      granted c = record { answer = Granted; content = c }

  replayed : IsReplayed app before id x
  replayed = replayed_over app s.tables before id x (h.1 id x is) alike

  broken_same : lasting (broken app.generation s.tables id x) ≡ lasting (broken app.generation before id x)
  broken_same =
      broken_alike app.generation s.tables before id x h.0.1.order
      (base_sorted app.generation s.tables h.0.1.order (x.first ∷ x.lterm ∷ x.inputs) x.notes x.statements id x.began began) same_part

  point_same : (o : Outcome) → lasting (synchronised app.generation s.tables id x o) ≡ lasting (synchronised app.generation before id x o)
  point_same o =
      synchronised_alike app.generation s.tables before id x o h.0.1.order
      (base_sorted app.generation s.tables h.0.1.order (x.first ∷ x.lterm ∷ x.inputs) x.notes x.statements id x.began began)
      (h.0.1.transactions id x is).lssbs_order same_part

  breaks_commits : (ending : Ending) → (statement_now app s id x).1 ≡ Breaks ending → IsAtomicCommit app (lasting s.tables) (lasting (broken app.generation s.tables id x)) (kept_record id x ending)
  breaks_commits ending now = record { whole = broken app.generation before id x; atomic = breaks_atomic app before id x replayed rooted_before (told_here app s id x) ending now; kept_part = broken_same }

  settles_commits : (o : Outcome) (cause : Option Cause) → (statement_now app s id x).1 ≡ Settles o → refusal app.generation (lasting (synchronised app.generation s.tables id x o)) ≡ cause
      → (let e = settled_as app s.tables id x (synchronised app.generation s.tables id x o) cause in IsAtomicCommit app (lasting s.tables) (lasting e.tables) (kept_record id x e.ending))
  settles_commits o None now refused = record {
    whole = synchronised app.generation before id x o;
    atomic = settles_atomic app before id x replayed rooted_before (told_here app s id x) o None now (ap (refusal app.generation) (sym (point_same o)) ∙ refused);
    kept_part = point_same o;
  }
  settles_commits o (Some cause) now refused = record {
    whole = broken app.generation before id x;
    atomic = settles_atomic app before id x replayed rooted_before (told_here app s id x) o (Some cause) now (ap (refusal app.generation) (sym (point_same o)) ∙ refused);
    kept_part = broken_same;
  }

-- ---- one step

pub turns_make : TurnsMakeTheirCommits
turns_make app s task h =
    as_law (turn_of app s task).after.tables (turn_of app s task).settled
    (turn_ends_so app s task (λ t kept. IsAtomicCommit app (durable app.generation s.tables) (durable app.generation t) kept)
    (λ id x ending is now. breaks_commits app s h id x is ending now)
    (λ id x o cause is now refused. settles_commits app s h id x is o cause now refused))
  where
    as_law : (t : TableRows) (o : Option Settled) → IfSettled (λ u kept. IsAtomicCommit app (durable app.generation s.tables) (durable app.generation u) kept) t o → IfSome (maker_of o) (Makes app (durable app.generation s.tables) (durable app.generation t))
    as_law t None k = tt
    as_law t (Some kept) k = k

-- what is shown is a due job of its LTERM
due_is_shown : (app : Application) (s : State) (lterm : Bytes) (job : Job) → due_for s lterm ≡ Some job
    → Shows (durable app.generation s.tables) (durable app.generation (shown_tables s.tables lterm job)) lterm
unfolding durable
due_is_shown app s lterm job is =
    let found = due_job_found s lterm job is in
    record { job = job; there = contains job s.tables.jobs found.there; target = for_lterm lterm job.value.to found.target; due = leb-true job.value.due s.tables.clock (both_true _ _ passes).0; shown = refl }
  where
    is_due : Job → Bool
    is_due j = nat_le j.value.due s.tables.clock && is_for lterm j.value.to

    passes : is_due job ≡ true
    passes = least_passes is_due (filter is_due (free_jobs s.active s.tables.jobs)) job (filtered_pass is_due (free_jobs s.active s.tables.jobs)) is

shows_commit : (app : Application) (s : State) (lterm no_message : Bytes) (line_of : Bytes → Bytes) → MakesItsCommit app s (show_next app s lterm no_message line_of)
unfolding show_next
shows_commit app s lterm no_message line_of = by (due_for s lterm) (λ j e. e)
  where
    by : (o : Option Job) → ((j : Job) → o ≡ Some j → due_for s lterm ≡ Some j) → MakesItsCommit app s (show_by app s lterm no_message line_of o)
    by None is = tt
    by (Some job) is = due_is_shown app s lterm job (is job refl)

again_commits : (app : Application) (s : State) (no_message : Bytes) (line_of : Bytes → Bytes) (o : Option JobValue) → MakesItsCommit app s (show_again_by s no_message line_of o)
again_commits app s no_message line_of None = tt
again_commits app s no_message line_of (Some value) = tt

display_commits : (app : Application) (s : State) (pterm : Bytes) (o : Option Bytes) → MakesItsCommit app s (display s pterm o)
display_commits app s pterm None = tt
display_commits app s pterm (Some message) = tt

sign_commits : (app : Application) (s : State) (pterm user lterm : Bytes) (o : Option Service) → MakesItsCommit app s (signed_on_by app s pterm user lterm o)
sign_commits app s pterm user lterm None = tt
sign_commits app s pterm user lterm (Some row) = tt

drop_commits : (app : Application) (s : State) (pterm : Bytes) (o : Option Session) → MakesItsCommit app s (drop_by app s pterm o)
drop_commits app s pterm None = tt
drop_commits app s pterm (Some v) = tt

tick_commits : (app : Application) (s : State) (ticks : ℕ) (within : Bool) → MakesItsCommit app s (tick_by app s ticks (s.tables.clock + ticks) within)
unfolding durable
tick_commits app s ticks true = refl
tick_commits app s ticks false = tt

use_commits : (app : Application) (s : State) (pterm : Bytes) (u : Use) → MakesItsCommit app s (used app s pterm (lterm_at app pterm) (user_at s pterm) u)
unfolding used
use_commits app s pterm (Sign name) = sign_commits app s pterm name (lterm_at app pterm) (service_of s.tables (Dialogue name))
use_commits app s pterm Display = display_commits app s pterm (last_by (find bytes_cmp pterm s.signed))
use_commits app s pterm Output = shows_commit app s (lterm_at app pterm) _ _
use_commits app s pterm Again = again_commits app s _ _ (shown_of s.tables (lterm_at app pterm))
use_commits app s pterm _ = tt

pub commands_make : CommandsMakeTheirCommits
unfolding command_of
commands_make app s (Input pterm text) h = use_commits app s pterm (use_now app s pterm text)
commands_make app s (Tick ticks) h = tick_commits app s ticks _
commands_make app s (Run turns) h = tt
commands_make app s (Turn task) h = turns_make app s task h
commands_make app s (Drop pterm) h = drop_commits app s pterm (find bytes_cmp pterm s.signed)
commands_make app s (Print pterm) h = shows_commit app s (lterm_at app pterm) _ _
commands_make app s (PrintLast pterm) h = again_commits app s _ _ (shown_of s.tables (lterm_at app pterm))
commands_make app s Restart h = tt

-- and so it meets the law on all tables
serial_by : (app : Application) (s : State) (t : TableRows) (o : Option Maker) → IfSome o (Makes app (durable app.generation s.tables) (durable app.generation t)) → IsSerialBy app s t o
serial_by app s t None k = tt
serial_by app s t (Some (ByTick ticks)) k = tt
serial_by app s t (Some (ByShow lterm)) k = tt
serial_by app s t (Some (ByTransaction kept)) k = k

pub turns_commit : TurnsCommitSerially
turns_commit app s task h = let d = turned_step (turn_of app s task) in serial_by app s d.after.tables d.by (turns_make app s task h)

pub commands_commit : CommandsCommitSerially
commands_commit app s c h = let d = command_of app s c in serial_by app s d.after.tables d.by (commands_make app s c h)

-- ---- scripts

script_serial : StepsKeepReplays → MeetsAlong HasReplays MakesItsCommit
script_serial keeps = meets_along HasReplays keeps MakesItsCommit (record { turns = λ app s task _ _ h. turns_make app s task h; commands = λ app s c _ _ h. commands_make app s c h })

each_serial : (app : Application) (s : State) (steps : List ScriptStep) → EachStep (MakesItsCommit app) s steps → EachStep (IsSerialStep app) s steps
each_serial app s [] h = tt
each_serial app s (d ∷ ds) h = (serial_by app s d.after.tables d.by h.0, each_serial app d.after ds h.1)

pub histories_are_serial : StepsKeepReplays → HistoriesAreSerial
histories_are_serial keeps app s script is_app fits h = each_serial app s (history app s script) (script_serial keeps app s script is_app fits h)

-- ---- serial runs

-- the steps make their commits one after another, and the others make none
made_in_turn : (app : Application) (s : State) (steps : List ScriptStep) → EachStep (CommitsOnce app) s steps → EachStep (MakesItsCommit app) s steps
    → MakeInTurn app (durable app.generation s.tables) (durable app.generation (state_after s steps).tables) (makers_of steps)
unfolding state_after
made_in_turn app s [] once makes = refl
made_in_turn app s (d ∷ ds) once makes = by d.by refl makes.0 (made_in_turn app d.after ds once.1 makes.1)
  where
    later : TableRows → Type 0
    later t = MakeInTurn app t (durable app.generation (state_after d.after ds).tables) (makers_of ds)

    by : (o : Option Maker) → d.by ≡ o → IfSome o (Makes app (durable app.generation s.tables) (durable app.generation d.after.tables)) → later (durable app.generation d.after.tables)
        → MakeInTurn app (durable app.generation s.tables) (durable app.generation (state_after d.after ds).tables) (filter_map (λ (d : ScriptStep). d.by) (record d { by = o } ∷ ds))
    by (Some maker) e m rest = (durable app.generation d.after.tables, (m, rest))
    by None e m rest = subst later (⊎_elim (λ (k : MakesNoCommit app s d). k.tables) (λ (k : MakesOneCommit app s d). absurd (true≢false (sym (ap is_some (sym e ∙ k.by))))) once.0) rest

pub scripts_are_serial_runs : StepsKeepReplays → HistoriesCommitOnce → ScriptsAreSerialRuns
unfolding started
scripts_are_serial_runs keeps once app t script is_app fits order suits = made_in_turn app (started app t) (history app (started app t) script) (once app (started app t) script)
    (script_serial keeps app (started app t) script is_app fits (keeps.starts app t is_app order suits))

pub stops_leave_serial_runs : StepsKeepReplays → HistoriesCommitOnce → StopsLeaveSerialRuns
unfolding started
stops_leave_serial_runs keeps once app t script is_app fits order suits first rest whole =
    let s = started app t in
    made_in_turn app s first
    (each_split (CommitsOnce app) s first rest (subst (EachStep (CommitsOnce app) s) whole (once app s script))).0
    (each_split (MakesItsCommit app) s first rest (subst (EachStep (MakesItsCommit app) s) whole (script_serial keeps app s script is_app fits (keeps.starts app t is_app order suits)))).0
