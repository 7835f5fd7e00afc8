-- After each command, and at each start, the open transactions are as their records are to be; so it holds along every script.
use Rattle.std.specs.Prelude.{◌≡◌, refl, ℕ, ◌+◌, ◌≤◌, Bool, true, false, cond, not, IsTrue, IfSome, List, [], ◌∷◌, filter, map, is_some, option_map, Option, Some, None}
use Rattle.std.proofs.Common.{sym, ap, ◌∙◌, subst, arith, true≢false}
use Rattle.std.specs.FinMap.{find}
use Rattle.kd_base.specs.ToolsLaws.{some_is, true_both}
use Rattle.kdcs_types.specs.declared.key.Key.TheVariants.{Job as JobKey}
use Rattle.kdcs_types.specs.declared.key.ServiceId.{ServiceId}
use Rattle.kdcs_types.specs.declared.key.ServiceId.TheVariants.{Dialogue, Asynchronous}
use Rattle.kdcs_types.specs.declared.service.Job.{Job}
use Rattle.kdcs_types.specs.declared.service.Service.{Service}
use Rattle.kdcs_types.specs.Keyed.{item_at}
use Rattle.kdcs_types.specs.KeyedLaws.{item_at_without}
use Rattle.kdcs_types.specs.Keys.{id_cmp, id_eq}
use Rattle.kdcs_types.specs.KeyLaws.{id_eq_same, other_number}
use Rattle.kdcs_types.specs.Tables.{TableRows, job_key, job_of, service_of, shown_of}
use Rattle.application_types.specs.Generation.{Generated}
use Rattle.abstract_monitor.specs.declared.command.Command.{Command}
use Rattle.abstract_monitor.specs.declared.command.Command.TheVariants.{Input, Tick, Run, Turn, Drop, Print, PrintLast, Restart}
use Rattle.abstract_monitor.specs.declared.input_use.Use.{Use}
use Rattle.abstract_monitor.specs.declared.input_use.Use.TheVariants.{Sign, SignRefused, SignFirst, AlreadySigned, Off, Display, Output, Again, Busy, TooLong, Next, Start, TacRefused}
use Rattle.abstract_monitor.specs.Access.{denial_of}
use Rattle.abstract_monitor.specs.Bytes.{Bytes, bytes_cmp}
use Rattle.abstract_monitor.specs.Commands.{opened_row, started, lterm_at, user_at, with_session, without_session, resumed_by, signed_on_by, withdrawn, rolled_tables, signed_off, due_for}
use Rattle.abstract_monitor.specs.Commands.{shown_tables, show_by, show_next, last_by, held_tac, next_by, next_input, used, use_now, tick_by, drop_by, command_of}
use Rattle.abstract_monitor.specs.Endings.{is_asynchronous, durable, opened, opened_by_start, opened_by_input, opened_by_row, lterm_of_row, followed_by_input, restarts}
use Rattle.abstract_monitor.specs.Picks.{free_jobs, is_free}
use Rattle.abstract_monitor.specs.Sessions.{service_state, use_under, use_of}
use Rattle.abstract_monitor.specs.State.{Application, OpenTransaction, Session, State}
use Rattle.abstract_monitor.specs.Turns.{queued}
use Rattle.laws_of_states.specs.Facts.{IsSessionOf}
use Rattle.laws_of_states.specs.Keeping.{HasFacts, Leads}
use Rattle.laws_of_states.specs.Suits.{fits_message, is_user}
use Rattle.laws_of_states.specs.TablesStayLaws.{again_stays, display_stays}
use Rattle.laws_of_states.specs.EntriesLaws.{found_put, found_without, other_put, other_without}
use Rattle.laws_of_states.specs.RowsLaws.{least_passes, all_filtered, filtered_pass}
use Rattle.laws_of_runs.specs.SerialLaws.{HasReplays}
use Rattle.laws_of_states.specs.ListsLaws.{all_append}
use Rattle.laws_of_states.specs.UsesLaws.{UseFits, use_fits}
use Rattle.trail_run.specs.HoldsFacts.{HasItsJob, IsRecorded, AllRecorded, HasRecords}
use Rattle.trail_run.proofs.laws_of_trails.HoldsJobs.{has_still}
use Rattle.trail_run.proofs.laws_of_trails.HoldsTurns.{row_recorded, after_step, opened_step, turns_recorded}

-- ---- a start

rows_recorded : (app : Application) (t : TableRows) (id : ServiceId) (x : OpenTransaction) (rows : List Service) → find id_cmp id (map (opened_row app) rows) ≡ Some x → IsRecorded app.generation t id x
rows_recorded app t id x [] is = absurd (true≢false (sym (ap is_some is)))
rows_recorded app t id x (row ∷ rows) is = by (id_eq id row.id) refl is (rows_recorded app t id x rows)
  where
    opens : OpenTransaction
    opens = opened_by_row app.generation row.id row (lterm_of_row row.lterm)

    by : (b : Bool) → id_eq id row.id ≡ b → cond b (Some opens) (find id_cmp id (map (opened_row app) rows)) ≡ Some x → (find id_cmp id (map (opened_row app) rows) ≡ Some x → IsRecorded app.generation t id x)
        → IsRecorded app.generation t id x
    by false e q later = later q
    by true e q later =
        subst (λ (i : ServiceId). IsRecorded app.generation t i x) (sym (id_eq_same id row.id e))
        (subst (λ (y : OpenTransaction). IsRecorded app.generation t row.id y) (some_is opens x q) (row_recorded app.generation t row.id row (lterm_of_row row.lterm)))

starts_recorded : (app : Application) (t : TableRows) → AllRecorded app (started app t)
unfolding started
starts_recorded app t id x is = rows_recorded app t id x (filter (λ (s : Service). is_asynchronous s.id) t.services) is

-- ---- transactions that read an input

-- one that an input starts
start_recorded : (g : Generated) (t : TableRows) (user lterm tac text : Bytes) → IsTrue (fits_message g text) → IsRecorded g t (Dialogue user) (opened_by_start g user lterm tac text)
unfolding opened
start_recorded g t user lterm tac text fits = record { first = tt; inputs = true_both _ _ fits refl; notes = refl; job = tt }

-- one whose row awaits it
awaited_recorded : (g : Generated) (t : TableRows) (user : Bytes) (row : Service) (lterm text : Bytes) → IsTrue (fits_message g text) → IsRecorded g t (Dialogue user) (opened_by_input g (Dialogue user) row lterm text)
unfolding opened
awaited_recorded g t user row lterm text fits = record { first = refl; inputs = true_both _ _ fits refl; notes = refl; job = tt }

-- one at a PEND KP
input_recorded : (g : Generated) (t : TableRows) (user : Bytes) (x : OpenTransaction) (tac text : Bytes) → IsTrue (fits_message g text) → IsRecorded g t (Dialogue user) x → IsRecorded g t (Dialogue user) (followed_by_input g x tac text)
unfolding followed_by_input
input_recorded g t user x tac text fits h = record { first = h.first; inputs = all_append (fits_message g) x.inputs (text ∷ []) h.inputs (true_both _ _ fits refl); notes = h.notes; job = tt }

-- ---- the commands

module _ (app : Application) (s : State) (facts : HasFacts app s) (all : AllRecorded app s) where
  same_open : (u : State) → u.active ≡ s.active → ((i : ServiceId) (y : OpenTransaction) → find id_cmp i s.active ≡ Some y → HasItsJob u.tables i y.first y.began) → AllRecorded app u
  same_open u same jobs i y is =
      let was = ap (find id_cmp i) (sym same) ∙ is in
      let h = all i y was in
      record { first = h.first; inputs = h.inputs; notes = h.notes; job = jobs i y was }

  becomes : (u : State) (id : ServiceId) (y : OpenTransaction) → u.tables ≡ s.tables → u.active ≡ s.active → IsRecorded app.generation s.tables id y → AllRecorded app (queued u id y)
  becomes u id y tables same h =
      opened_step app s all (queued u id y) id y tables (found_put id y u.active) (λ i k. other_put i id y u.active k ∙ ap (find id_cmp i) same) h

  signs_on : (pterm user lterm : Bytes) (o : Option Service) → AllRecorded app (signed_on_by app s pterm user lterm o).after
  signs_on pterm user lterm None = all
  signs_on pterm user lterm (Some row) = by row.awaits
    where
      by : (b : Bool) → AllRecorded app (resumed_by app (with_session s pterm user row.last) user lterm row b)
      by true = all
      by false = becomes (with_session s pterm user row.last) (Dialogue user) (opened_by_row app.generation (Dialogue user) row lterm) refl refl (row_recorded app.generation s.tables (Dialogue user) row lterm)

  signs_off : (pterm user : Bytes) → AllRecorded app (signed_off app s pterm user)
  unfolding signed_off
  signs_off pterm user =
      let id = Dialogue user in
      after_step app s all (record (without_session (withdrawn s id) pterm) { tables = rolled_tables app s.tables user (restarts app.generation user) }) id
      (λ i e. other_without i id s.active e)
      (λ i y e was. rolled (restarts app.generation user) i y was)
      (λ y h. absurd (true≢false (sym (ap is_some (sym (found_without id s.active) ∙ h)))))
    where
      rolled : (b : Bool) (i : ServiceId) (y : OpenTransaction) → find id_cmp i s.active ≡ Some y → HasItsJob (rolled_tables app s.tables user b) i y.first y.began
      rolled true i y was = (all i y was).job
      rolled false i y was = has_still s.tables (rolled_tables app s.tables user false) (omega arith) i y.first y.began (λ n same h. refl) (all i y was).job

  -- the job that is shown is no open service's
  shows : (lterm no_message : Bytes) (line_of : Bytes → Bytes) → AllRecorded app (show_next app s lterm no_message line_of).after
  unfolding show_next
  shows lterm no_message line_of = by (due_for s lterm) free
    where
      free : (j : Job) → due_for s lterm ≡ Some j → is_free s.active j ≡ true
      free j is = least_passes (is_free s.active) _ j (all_filtered (is_free s.active) _ (free_jobs s.active s.tables.jobs) (filtered_pass (is_free s.active) s.tables.jobs)) is

      other : (job : Job) → is_free s.active job ≡ true → (n : ℕ) (y : OpenTransaction) → find id_cmp (Asynchronous n) s.active ≡ Some y → (b : Bool) → id_eq (Asynchronous n) (Asynchronous job.number) ≡ b
          → id_eq (Asynchronous n) (Asynchronous job.number) ≡ false
      other job f n y was false e = e
      other job f n y was true e =
          absurd (true≢false (sym f ∙ ap (λ k. not (is_some (find id_cmp k s.active))) (sym (id_eq_same (Asynchronous n) (Asynchronous job.number) e)) ∙ ap (λ o. not (is_some o)) was))

      job_same : (job : Job) → is_free s.active job ≡ true → (n : ℕ) (y : OpenTransaction) → find id_cmp (Asynchronous n) s.active ≡ Some y → job_of (shown_tables s.tables lterm job) n ≡ job_of s.tables n
      job_same job f n y was =
          ap (option_map (λ (j : Job). j.value))
          (item_at_without job_key (JobKey n) (JobKey job.number) s.tables.jobs
          ∙ ap (λ b. cond b None (item_at job_key (JobKey n) s.tables.jobs)) (other_number n job.number (other job f n y was (id_eq (Asynchronous n) (Asynchronous job.number)) refl)))

      by : (o : Option Job) → ((j : Job) → o ≡ Some j → is_free s.active j ≡ true) → AllRecorded app (show_by app s lterm no_message line_of o).after
      by None f = all
      by (Some job) f =
          same_open (record s { tables = shown_tables s.tables lterm job }) refl
          (λ i y was. has_still s.tables (shown_tables s.tables lterm job) (omega arith) i y.first y.began
          (λ n same h. job_same job (f job refl) n y (ap (λ (k : ServiceId). find id_cmp k s.active) (sym same) ∙ was)) (all i y was).job)

  ticks_on : (ticks clock : ℕ) → s.tables.clock ≤ clock → (within : Bool) → AllRecorded app (tick_by app s ticks clock within).after
  ticks_on ticks clock later false = all
  ticks_on ticks clock later true =
      same_open (record s { tables = record s.tables { clock = clock } }) refl
      (λ i y was. has_still s.tables (record s.tables { clock = clock }) later i y.first y.began (λ n same h. refl) (all i y was).job)

  goes_next : (user lterm text : Bytes) → IsTrue (fits_message app.generation text) → AllRecorded app (next_input app s user lterm text)
  goes_next user lterm text fits = by (find id_cmp (Dialogue user) s.active) refl (service_of s.tables (Dialogue user))
    where
      by : (o : Option OpenTransaction) → find id_cmp (Dialogue user) s.active ≡ o → (row : Option Service) → AllRecorded app (next_by app s user lterm text o row)
      by (Some x) e row =
          becomes s (Dialogue user) (followed_by_input app.generation x (held_tac app x) text) refl refl (input_recorded app.generation s.tables user x (held_tac app x) text fits (all (Dialogue user) x e))
      by None e (Some row) = becomes s (Dialogue user) (opened_by_input app.generation (Dialogue user) row lterm text) refl refl (awaited_recorded app.generation s.tables user row lterm text fits)
      by None e None = all

  uses : (pterm : Bytes) (u : Use) → UseFits app.generation (user_at s pterm) (service_state s (user_at s pterm)) u → AllRecorded app (used app s pterm (lterm_at app pterm) (user_at s pterm) u).after
  unfolding used
  uses pterm (Sign name) f = signs_on pterm name (lterm_at app pterm) (service_of s.tables (Dialogue name))
  uses pterm (SignRefused fault) f = all
  uses pterm SignFirst f = all
  uses pterm AlreadySigned f = all
  uses pterm Off f = signs_off pterm (user_at s pterm)
  uses pterm Display f = display_stays (AllRecorded app) s all pterm (last_by (find bytes_cmp pterm s.signed))
  uses pterm Output f = shows (lterm_at app pterm) _ _
  uses pterm Again f = again_stays (AllRecorded app) s all _ _ (shown_of s.tables (lterm_at app pterm))
  uses pterm Busy f = all
  uses pterm TooLong f = all
  uses pterm (Next text) f = goes_next (user_at s pterm) (lterm_at app pterm) text f.fits
  uses pterm (Start tac text) f =
      becomes s (Dialogue (user_at s pterm)) (opened_by_start app.generation (user_at s pterm) (lterm_at app pterm) tac text) refl refl
      (start_recorded app.generation s.tables (user_at s pterm) (lterm_at app pterm) tac text f.fits)
  uses pterm (TacRefused fault) f = all

  -- the use of an input, as the system stands
  use_now_fits : (pterm text : Bytes) → UseFits app.generation (user_at s pterm) (service_state s (user_at s pterm)) (use_now app s pterm text)
  unfolding use_of use_under use_now
  use_now_fits pterm text =
      use_fits app.generation (denial_of app.generation) s.signed (service_state s) (lterm_at app pterm) text (find bytes_cmp pterm s.signed) (by (find bytes_cmp pterm s.signed) (facts.1.sessions pterm))
    where
      by : (o : Option Session) → IfSome o (λ (v : Session). IsSessionOf app (pterm, v)) → IfSome o (λ (v : Session). IsTrue (is_user app.generation v.user))
      by None h = tt
      by (Some v) h = h.1

  drops : (pterm : Bytes) (o : Option Session) → AllRecorded app (drop_by app s pterm o).after
  drops pterm None = all
  drops pterm (Some v) = signs_off pterm v.user

  pub commands_recorded : (c : Command) → AllRecorded app (command_of app s c).after
  unfolding command_of
  commands_recorded (Input pterm text) = uses pterm (use_now app s pterm text) (use_now_fits pterm text)
  commands_recorded (Tick ticks) = ticks_on ticks (s.tables.clock + ticks) (omega arith) _
  commands_recorded (Run turns) = all
  commands_recorded (Turn task) = turns_recorded app s facts all task
  commands_recorded (Drop pterm) = drops pterm (find bytes_cmp pterm s.signed)
  commands_recorded (Print pterm) = shows (lterm_at app pterm) _ _
  commands_recorded (PrintLast pterm) = again_stays (AllRecorded app) s all _ _ (shown_of s.tables (lterm_at app pterm))
  commands_recorded Restart = starts_recorded app (durable app.generation s.tables)

-- ---- all steps

pub steps_keep_records : Leads HasReplays HasReplays → Leads HasRecords HasRecords
steps_keep_records keeps = record {
  turns = λ app s task is_app within h. (keeps.turns app s task is_app within h.0, turns_recorded app s h.0.0 h.1 task);
  commands = λ app s c is_app fits h. (keeps.commands app s c is_app fits h.0, commands_recorded app s h.0.0 h.1 c);
  starts = λ app t is_app order suits. (keeps.starts app t is_app order suits, starts_recorded app t);
}
