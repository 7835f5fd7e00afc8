-- After each command, and at each start, all open transactions replay to themselves.
use Rattle.std.specs.Prelude.{◌≡◌, refl, ℕ, Bool, true, false, cond, not, ◌||◌, List, [], ◌∷◌, filter, map, is_some, option_map, Option, Some, None}
use Rattle.std.proofs.Common.{sym, ap, ◌∙◌, subst, true≢false}
use Rattle.std.specs.FinMap.{find}
use Rattle.kd_base.specs.ToolsLaws.{some_is}
use Rattle.kdcs_types.specs.declared.key.Area.{Area}
use Rattle.kdcs_types.specs.declared.key.Area.TheVariants.{Gssb, Tls, Uls}
use Rattle.kdcs_types.specs.declared.key.ServiceId.{ServiceId}
use Rattle.kdcs_types.specs.declared.key.ServiceId.TheVariants.{Dialogue, Asynchronous}
use Rattle.kdcs_types.specs.declared.service.Job.{Job}
use Rattle.kdcs_types.specs.declared.service.Service.{Service}
use Rattle.kdcs_types.specs.Keys.{id_cmp, id_eq}
use Rattle.kdcs_types.specs.KeyLaws.{id_eq_same}
use Rattle.kdcs_types.specs.Tables.{TableRows, content_of, service_of, shown_of}
use Rattle.abstract_monitor.specs.declared.input_use.Use.{Use}
use Rattle.abstract_monitor.specs.declared.input_use.Use.TheVariants.{Sign, SignRefused, SignFirst, AlreadySigned, Off, Display, Output, Again, Busy, TooLong, Next, Start, TacRefused}
use Rattle.abstract_monitor.specs.Bytes.{Bytes, bytes_cmp}
use Rattle.abstract_monitor.specs.Calls.{nothing_told}
use Rattle.abstract_monitor.specs.declared.command.Command.{Command}
use Rattle.abstract_monitor.specs.declared.command.Command.TheVariants.{Input, Tick, Run, Turn, Drop, Print, PrintLast, Restart}
use Rattle.abstract_monitor.specs.Commands.{user_by, opened_row, started, lterm_at, user_at, with_session, without_session, resumed_by, signed_on_by, withdrawn, rolled_tables, signed_off, due_for}
use Rattle.abstract_monitor.specs.Commands.{shown_tables, show_by, show_next, last_by, follow_up_of, held_tac, next_by, next_input, used, use_now, tick_by, drop_by, command_of}
use Rattle.abstract_monitor.specs.Endings.{is_asynchronous, durable, restarts, opened_by_start, opened_by_input, opened_by_row, lterm_of_row, with_service, followed_by_input}
use Rattle.abstract_monitor.specs.Picks.{free_jobs, is_free}
use Rattle.abstract_monitor.specs.Sessions.{awaits_by, is_running, is_awaiting}
use Rattle.abstract_monitor.specs.State.{Application, OpenTransaction, Session, State}
use Rattle.abstract_monitor.specs.Statements.{Stated}
use Rattle.abstract_monitor.specs.Turns.{queued}
use Rattle.abstract_monitor.specs.UseLaws.{IsFor, use_fits}
use Rattle.laws_of_states.specs.Keeping.{HasFacts}
use Rattle.laws_of_states.specs.TablesStayLaws.{again_stays, display_stays}
use Rattle.laws_of_states.specs.EntriesLaws.{found_put, found_without, other_put, other_without}
use Rattle.laws_of_states.specs.RowsLaws.{least_passes, all_filtered, filtered_pass}
use Rattle.laws_of_runs.specs.Replays.{HasSameJob, SeesTheSame, ReplaysToItself, AllReplay}
use Rattle.laws_of_runs.proofs.Frames.{still_replays, service_content, job_kept}
use Rattle.laws_of_runs.proofs.Openings.{start_replays, awaited_replays, asynchronous_row_replays}
use Rattle.laws_of_runs.proofs.Steps.{input_replays}
use Rattle.laws_of_runs.proofs.Turns.{seen_itself, row_replays, after_step, opened_step, turns_replay}

-- ---- a start

module _ (app : Application) (t : TableRows) where
  asynchronous_replays : (id : ServiceId) (row : Service) → is_asynchronous id ≡ true → ReplaysToItself app t id (opened_by_row app.generation id row (lterm_of_row row.lterm))
  asynchronous_replays (Dialogue user) row e = absurd (true≢false (sym e))
  asynchronous_replays (Asynchronous number) row e = asynchronous_row_replays app t number row

  rows_replay : (id : ServiceId) (x : OpenTransaction) (rows : List Service) → find id_cmp id (map (opened_row app) (filter (λ (s : Service). is_asynchronous s.id) rows)) ≡ Some x → ReplaysToItself app t id x
  rows_replay id x [] is = absurd (true≢false (sym (ap is_some is)))
  rows_replay id x (row ∷ rows) is = by (is_asynchronous row.id) refl is (rows_replay id x rows)
    where
      by : (b : Bool) → is_asynchronous row.id ≡ b
          → find id_cmp id (map (opened_row app) (cond b (row ∷ filter (λ (s : Service). is_asynchronous s.id) rows) (filter (λ (s : Service). is_asynchronous s.id) rows))) ≡ Some x
          → (find id_cmp id (map (opened_row app) (filter (λ (s : Service). is_asynchronous s.id) rows)) ≡ Some x → ReplaysToItself app t id x) → ReplaysToItself app t id x
      by false e q later = later q
      by true e q later = either (id_eq id row.id) refl q
        where
          either : (c : Bool) → id_eq id row.id ≡ c
              → cond c (Some (opened_by_row app.generation row.id row (lterm_of_row row.lterm))) (find id_cmp id (map (opened_row app) (filter (λ (s : Service). is_asynchronous s.id) rows))) ≡ Some x
              → ReplaysToItself app t id x
          either false f h = later h
          either true f h =
              subst (λ i. ReplaysToItself app t i x) (sym (id_eq_same id row.id f))
              (subst (λ (y : OpenTransaction). ReplaysToItself app t row.id y) (some_is (opened_by_row app.generation row.id row (lterm_of_row row.lterm)) x h) (asynchronous_replays row.id row e))

pub starts_replay : (app : Application) (t : TableRows) → AllReplay app (started app t)
unfolding started
starts_replay app t id x is = rows_replay app t id x t.services is

-- ---- tables with the same areas

service_job : (t : TableRows) (id : ServiceId) (i : ServiceId) (began : Option Service) → HasSameJob t (with_service t id None) i began
service_job t id (Dialogue user) began = tt
service_job t id (Asynchronous number) (Some row) = tt
service_job t id (Asynchronous number) None = refl

clock_content : (t : TableRows) (clock : ℕ) (area : Area) → content_of (record t { clock = clock }) area ≡ content_of t area
clock_content t clock (Gssb n) = refl
clock_content t clock (Tls b l) = refl
clock_content t clock (Uls b u) = refl

clock_job : (t : TableRows) (clock : ℕ) (i : ServiceId) (began : Option Service) → HasSameJob t (record t { clock = clock }) i began
clock_job t clock (Dialogue user) began = tt
clock_job t clock (Asynchronous number) (Some row) = tt
clock_job t clock (Asynchronous number) None = refl

shown_content : (t : TableRows) (lterm : Bytes) (job : Job) (area : Area) → content_of (shown_tables t lterm job) area ≡ content_of t area
shown_content t lterm job (Gssb n) = refl
shown_content t lterm job (Tls b l) = refl
shown_content t lterm job (Uls b u) = refl

-- ---- the commands

module _ (app : Application) (s : State) (facts : HasFacts app s) (all : AllReplay app s) where
  same_open : (u : State) → u.active ≡ s.active → ((i : ServiceId) (y : OpenTransaction) → find id_cmp i s.active ≡ Some y → SeesTheSame s.tables u.tables i y) → AllReplay app u
  same_open u same sees i y is = let was = ap (find id_cmp i) (sym same) ∙ is in still_replays app s.tables u.tables i y (sees i y was) (all i y was)

  signs_on : (pterm user lterm : Bytes) (o : Option Service) → AllReplay app (signed_on_by app s pterm user lterm o).after
  signs_on pterm user lterm None = all
  signs_on pterm user lterm (Some row) = by row.awaits refl
    where
      by : (b : Bool) → row.awaits ≡ b → AllReplay app (resumed_by app (with_session s pterm user row.last) user lterm row b)
      by true e = all
      by false e =
          let id = Dialogue user in
          let y = opened_by_row app.generation id row lterm in
          opened_step app s all (queued (with_session s pterm user row.last) id y) id y refl (found_put id y s.active) (λ i k. other_put i id y s.active k) (row_replays app s.tables id row lterm e tt)

  signs_off : (pterm user : Bytes) → AllReplay app (signed_off app s pterm user)
  unfolding signed_off
  signs_off pterm user =
      let id = Dialogue user in
      after_step app s all (record (without_session (withdrawn s id) pterm) { tables = rolled_tables app s.tables user (restarts app.generation user) }) id
      (λ i e. other_without i id s.active e)
      (λ i y e was. rolled (restarts app.generation user) i y)
      (λ y h. absurd (true≢false (sym (ap is_some (sym (found_without id s.active) ∙ h)))))
    where
      rolled : (b : Bool) (i : ServiceId) (y : OpenTransaction) → SeesTheSame s.tables (rolled_tables app s.tables user b) i y
      rolled true i y = seen_itself s.tables i y
      rolled false i y = record { areas = λ area held. service_content s.tables (Dialogue user) None area; job = service_job s.tables (Dialogue user) i y.began }

  -- the job that is shown is no open service's
  shows : (lterm no_message : Bytes) (line_of : Bytes → Bytes) → AllReplay app (show_next app s lterm no_message line_of).after
  unfolding show_next
  shows lterm no_message line_of = by (due_for s lterm) free
    where
      free : (j : Job) → due_for s lterm ≡ Some j → is_free s.active j ≡ true
      free j is = least_passes (is_free s.active) _ j (all_filtered (is_free s.active) _ (free_jobs s.active s.tables.jobs) (filtered_pass (is_free s.active) s.tables.jobs)) is

      other : (job : Job) → is_free s.active job ≡ true → (n : ℕ) (y : OpenTransaction) → find id_cmp (Asynchronous n) s.active ≡ Some y → (b : Bool) → id_eq (Asynchronous n) (Asynchronous job.number) ≡ b
          → id_eq (Asynchronous n) (Asynchronous job.number) ≡ false
      other job f n y was false e = e
      other job f n y was true e =
          absurd (true≢false (sym f ∙ ap (λ k. not (is_some (find id_cmp k s.active))) (sym (id_eq_same (Asynchronous n) (Asynchronous job.number) e)) ∙ ap (λ o. not (is_some o)) was))

      job_same : (job : Job) → is_free s.active job ≡ true → (i : ServiceId) (y : OpenTransaction) → find id_cmp i s.active ≡ Some y → (began : Option Service) → HasSameJob s.tables (shown_tables s.tables lterm job) i began
      job_same job f (Dialogue user) y was began = tt
      job_same job f (Asynchronous n) y was (Some row) = tt
      job_same job f (Asynchronous n) y was None = ap (option_map (λ (j : Job). j.value)) (job_kept n job.number s.tables.jobs (other job f n y was (id_eq (Asynchronous n) (Asynchronous job.number)) refl))

      by : (o : Option Job) → ((j : Job) → o ≡ Some j → is_free s.active j ≡ true) → AllReplay app (show_by app s lterm no_message line_of o).after
      by None f = all
      by (Some job) f =
          same_open (record s { tables = shown_tables s.tables lterm job }) refl
          (λ i y was. record { areas = λ area held. shown_content s.tables lterm job area; job = job_same job (f job refl) i y was y.began })

  ticks_on : (ticks clock : ℕ) (within : Bool) → AllReplay app (tick_by app s ticks clock within).after
  ticks_on ticks clock false = all
  ticks_on ticks clock true =
      same_open (record s { tables = record s.tables { clock = clock } }) refl
      (λ i y was. record { areas = λ area held. clock_content s.tables clock area; job = clock_job s.tables clock i y.began })

  goes_next : (user lterm text : Bytes) → is_running s (Dialogue user) ≡ false → is_awaiting s (Dialogue user) ≡ true → AllReplay app (next_input app s user lterm text)
  goes_next user lterm text rests awaits = by (find id_cmp (Dialogue user) s.active) refl (service_of s.tables (Dialogue user)) refl
    where
      becomes : (y : OpenTransaction) → ReplaysToItself app s.tables (Dialogue user) y → AllReplay app (queued s (Dialogue user) y)
      becomes y replays = opened_step app s all (queued s (Dialogue user) y) (Dialogue user) y refl (found_put (Dialogue user) y s.active) (λ i k. other_put i (Dialogue user) y s.active k) replays

      by : (o : Option OpenTransaction) → find id_cmp (Dialogue user) s.active ≡ o → (row : Option Service) → service_of s.tables (Dialogue user) ≡ row → AllReplay app (next_by app s user lterm text o row)
      by (Some x) e row q =
          let stands = facts.0.kept (Dialogue user) x e rests in
          let same : held_tac app x ≡ stands.0 = ap (λ (r : Stated). follow_up_of r.1) (stands.1 nothing_told) in
          becomes (followed_by_input app.generation x (held_tac app x) text)
          (subst (λ tac. ReplaysToItself app s.tables (Dialogue user) (followed_by_input app.generation x tac text)) (sym same) (input_replays app s.tables (Dialogue user) x (all (Dialogue user) x e) stands.0 text stands.1))
      by None e (Some row) q =
          becomes (opened_by_input app.generation (Dialogue user) row lterm text)
          (awaited_replays app s.tables user row lterm text (sym (ap (λ o. is_some o || awaits_by (service_of s.tables (Dialogue user))) e ∙ ap awaits_by q) ∙ awaits))
      by None e None q = all

  uses : (pterm : Bytes) (u : Use) → IsFor s pterm u → AllReplay app (used app s pterm (lterm_at app pterm) (user_at s pterm) u).after
  unfolding used
  uses pterm (Sign name) f = signs_on pterm name (lterm_at app pterm) (service_of s.tables (Dialogue name))
  uses pterm (SignRefused fault) f = all
  uses pterm SignFirst f = all
  uses pterm AlreadySigned f = all
  uses pterm Off f = signs_off pterm (user_at s pterm)
  uses pterm Display f = display_stays (AllReplay app) s all pterm (last_by (find bytes_cmp pterm s.signed))
  uses pterm Output f = shows (lterm_at app pterm) _ _
  uses pterm Again f = again_stays (AllReplay app) s all _ _ (shown_of s.tables (lterm_at app pterm))
  uses pterm Busy f = all
  uses pterm TooLong f = all
  uses pterm (Next text) f =
      goes_next (user_at s pterm) (lterm_at app pterm) text
      (subst (λ (o : Option Session). is_running s (Dialogue (user_by o)) ≡ false) (sym f.1.signed) f.1.rests)
      (subst (λ (o : Option Session). is_awaiting s (Dialogue (user_by o)) ≡ true) (sym f.1.signed) f.2)
  uses pterm (Start tac text) f =
      let id = Dialogue (user_at s pterm) in
      let y = opened_by_start app.generation (user_at s pterm) (lterm_at app pterm) tac text in
      opened_step app s all (queued s id y) id y refl (found_put id y s.active) (λ i k. other_put i id y s.active k) (start_replays app s.tables (user_at s pterm) (lterm_at app pterm) tac text)
  uses pterm (TacRefused fault) f = all

  drops : (pterm : Bytes) (o : Option Session) → AllReplay app (drop_by app s pterm o).after
  drops pterm None = all
  drops pterm (Some v) = signs_off pterm v.user

  pub commands_replay : (c : Command) → AllReplay app (command_of app s c).after
  unfolding command_of
  commands_replay (Input pterm text) = uses pterm (use_now app s pterm text) (use_fits app s pterm text)
  commands_replay (Tick ticks) = ticks_on ticks _ _
  commands_replay (Run turns) = all
  commands_replay (Turn task) = turns_replay app s task facts all
  commands_replay (Drop pterm) = drops pterm (find bytes_cmp pterm s.signed)
  commands_replay (Print pterm) = shows (lterm_at app pterm) _ _
  commands_replay (PrintLast pterm) = again_stays (AllReplay app) s all _ _ (shown_of s.tables (lterm_at app pterm))
  commands_replay Restart = starts_replay app (durable app.generation s.tables)
