-- Each step has at most one commit, which is first and is the difference that the step makes.
use Rattle.std.specs.Prelude.{◌≡◌, refl, ℕ, ◌+◌, Bool, true, false, List, [], ◌∷◌, ◌++◌, ◌⊎◌, Option, Some, None, nat_le, codes}
use Rattle.std.proofs.Common.{sym, ap, ◌∙◌, inl, inr}
use Rattle.std.specs.FinMap.{find}
use Rattle.kdcs_types.specs.declared.act.Act.{Act}
use Rattle.kdcs_types.specs.declared.act.Act.TheVariants.{Emit}
use Rattle.kdcs_types.specs.declared.key.ServiceId.{ServiceId}
use Rattle.kdcs_types.specs.declared.key.ServiceId.TheVariants.{Dialogue, Asynchronous}
use Rattle.kdcs_types.specs.declared.service.Ending.{Ending}
use Rattle.kdcs_types.specs.declared.service.Ending.TheVariants.{Synced, Broken, BrokenFr}
use Rattle.kdcs_types.specs.declared.service.Job.{Job}
use Rattle.kdcs_types.specs.declared.service.JobValue.{JobValue}
use Rattle.kdcs_types.specs.declared.service.Service.{Service}
use Rattle.kdcs_types.specs.declared.service.Settled.{Settled}
use Rattle.kdcs_types.specs.DifferenceLaws.{difference_makes_new}
use Rattle.kdcs_types.specs.Keys.{id_cmp}
use Rattle.kdcs_types.specs.Tables.{TableRows, service_of, shown_of}
use Rattle.kd_base.specs.Limits.{last_clock}
use Rattle.abstract_monitor.specs.declared.answer.Happened.{Happened}
use Rattle.abstract_monitor.specs.declared.answer.Happened.TheVariants.{Went, Queued, Waited, Held, Settles, Breaks, Returns}
use Rattle.abstract_monitor.specs.declared.input_use.Use.{Use}
use Rattle.abstract_monitor.specs.declared.input_use.Use.TheVariants.{Sign, Off, Display, Output, Again, Next, Start}
use Rattle.abstract_monitor.specs.declared.outcome.Outcome.{Outcome}
use Rattle.abstract_monitor.specs.declared.outcome.Outcome.TheVariants.{Wait, Point, Follow, Finish}
use Rattle.abstract_monitor.specs.Bytes.{Bytes, bytes_cmp}
use Rattle.abstract_monitor.specs.State.{Application, OpenTransaction, Session, State}
use Rattle.abstract_monitor.specs.Endings.{durable, synchronised, row_after, restarts}
use Rattle.abstract_monitor.specs.Statements.{area_of, kept_record}
use Rattle.abstract_monitor.specs.Lines.{sys_line}
use Rattle.abstract_monitor.specs.Turns.{Turned, commit_of, committed, without_transaction, with_task, without_wait, waiting_for, pterm_of_user, out_acts, ended_at, ended_acts, dump_acts}
use Rattle.abstract_monitor.specs.Turns.{message_sent, message_acts, goes_on, after_point, settled, abnormal, last_again, back_by, back, happens, served, turn_of}
use Rattle.abstract_monitor.specs.declared.command.Command.TheVariants.{Input, Tick, Run, Turn, Drop, Print, PrintLast, Restart}
use Rattle.abstract_monitor.specs.Commands.{Maker, ByTransaction, started, signed_on_by, resumed_by, with_session, signed_off, rolled_tables, show_next, show_by, show_again_by, due_for, display}
use Rattle.abstract_monitor.specs.Commands.{last_by, next_by, used, use_now, tick_by, drop_by, command_of, turned_step, lterm_at, uncommitted, says, committing, maker_of, out_again, restarted}
use Rattle.abstract_monitor.specs.Trace.{tables_after}
use Rattle.laws_of_states.specs.TablesStayLaws.{last_tables, sent_tables, goes_tables}
use Rattle.laws_of_states.specs.DurableLaws.{durable_sorted, durable_again, durable_without}
use Rattle.laws_of_states.specs.EachTurnLaws.{of_point, of_turn}
use Rattle.laws_of_states.specs.Steps.{AreLines, CommitsOnce, TurnsCommitOnce, CommandsCommitOnce, StepsMakeTheirTables}
use Rattle.laws_of_states.specs.StepsLaws.{lines_after}

-- ---- lines

out_lines : (pterm : Option Bytes) (message : Bytes) → AreLines (out_acts pterm message)
out_lines None message = tt
out_lines (Some pterm) message = tt

ended_lines : (pterm : Option Bytes) → AreLines (ended_at pterm)
ended_lines None = tt
ended_lines (Some pterm) = tt

ends_lines : (s : State) (id : ServiceId) → AreLines (ended_acts s id)
ends_lines s (Dialogue user) = ended_lines (pterm_of_user s.signed user)
ends_lines s (Asynchronous number) = tt

dump_lines : (s : State) (id : ServiceId) (x : OpenTransaction) (ending : Ending) → AreLines (dump_acts id x ending ++ ended_acts s id)
dump_lines s id x Synced = ends_lines s id
dump_lines s id x (Broken cause) = ends_lines s id
dump_lines s id x BrokenFr = ends_lines s id

message_lines : (s : State) (id : ServiceId) (x : OpenTransaction) → AreLines (message_acts s id x)
message_lines s (Dialogue user) x = out_lines (pterm_of_user s.signed user) _
message_lines s (Asynchronous number) x = tt

-- ---- a turn

-- a turn that keeps the tables
abbrev Keeps : State → Turned → Type 0
Keeps s t = (t.settled ≡ None) × (AreLines t.acts × (t.after.tables ≡ s.tables))

-- a turn that ends a transaction with a commit
record Ends (app : Application) (s : State) (t : Turned) : Type 0 where
  kept : Settled
  is : t.settled ≡ Some kept
  rest : List Act
  acts : t.acts ≡ commit_of app s.tables t.after.tables ∷ rest
  lines : AreLines rest

abbrev Fine : Application → State → Turned → Type 0
Fine app s t = Keeps s t ⊎ Ends app s t

module _ (app : Application) (s : State) (task : ℕ) (id : ServiceId) (x : OpenTransaction) where
  abnormal_fine : (e : Ending) → Fine app s (abnormal app s task id x e)
  unfolding abnormal
  abnormal_fine e = inr (record { kept = kept_record id x e; is = refl; rest = dump_acts id x e ++ ended_acts s id; acts = refl; lines = dump_lines s id x e })

  -- a commit of these tables, in a state that has them
  commits : (u : State) (new : TableRows) (kept : Settled) (lines : List Act) → u.tables ≡ new → AreLines lines → Fine app s (committed u (commit_of app s.tables new) kept lines)
  commits u new kept lines e are = inr (record { kept = kept; is = refl; rest = lines; acts = ap (λ (t : TableRows). commit_of app s.tables t ∷ lines) (sym e); lines = are })

  point_fine : (u : State) (new : TableRows) → u.tables ≡ new → (o : Outcome) (row : Option Service) (kept : Settled) → Fine app s (after_point app u id x o row (commit_of app s.tables new) kept)
  point_fine u new e (Wait tac) row kept = commits (message_sent u id x) new kept _ (sent_tables u id x ∙ e) (message_lines u id x)
  point_fine u new e Finish row kept = commits (message_sent u id x) new kept _ (sent_tables u id x ∙ e) (message_lines u id x)
  point_fine u new e (Point tac) row kept = commits (goes_on app u id x row) new kept [] (goes_tables app u id x row ∙ e) tt
  point_fine u new e (Follow tac) row kept = commits (goes_on app u id x row) new kept [] (goes_tables app u id x row ∙ e) tt
  point_fine u new e _ row kept = commits u new kept [] e tt

  settled_fine : (o : Outcome) → Fine app s (settled app s task id x o)
  settled_fine o =
      let new = synchronised app.generation s.tables id x o in
      of_point app s task id x o (Fine app s) (λ cause. abnormal_fine (Broken cause))
      (point_fine (record (without_transaction s task id) { tables = new }) new refl o (row_after app.generation id x o) (kept_record id x Synced))

  again_fine : (u : State) → u.tables ≡ s.tables → (last : Option Bytes) → Fine app s (last_again u id last)
  again_fine u e None = inl (refl, (tt, e))
  again_fine u e (Some message) = by id
    where
      by : (i : ServiceId) → Fine app s (last_again u i (Some message))
      by (Dialogue user) = inl (refl, (out_lines (pterm_of_user u.signed user) message, last_tables u (pterm_of_user u.signed user) message ∙ e))
      by (Asynchronous number) = inl (refl, (tt, e))

  back_fine : (began : Option Service) → Fine app s (back app (without_transaction s task id) id x began)
  back_fine None = inl (refl, (ends_lines (without_transaction s task id) id, refl))
  back_fine (Some row) = by row.awaits
    where
      by : (b : Bool) → Fine app s (back_by app (without_transaction s task id) id x row b)
      by true = again_fine (without_transaction s task id) refl row.last
      by false = inl (refl, (tt, refl))

  waits_tables : (o : _) → (waiting_for s id o).tables ≡ s.tables
  waits_tables None = refl
  waits_tables (Some area) = refl

  happens_fine : (y : OpenTransaction) (h : Happened) → Fine app s (happens app s task id x y h)
  unfolding happens
  happens_fine y Went = inl (refl, (tt, refl))
  happens_fine y Queued = inl (refl, (tt, refl))
  happens_fine y Waited = inl (refl, (tt, waits_tables (area_of app x)))
  happens_fine y (Held tac) = inl (refl, (message_lines s id x, sent_tables (with_task (without_wait s id) task None) id x))
  happens_fine y (Settles o) = settled_fine o
  happens_fine y (Breaks ending) = abnormal_fine ending
  happens_fine y Returns = back_fine x.began

served_fine : (app : Application) (s : State) (task : ℕ) (id : ServiceId) (o : Option OpenTransaction) → Fine app s (served app s task id o)
served_fine app s task id None = inl (refl, (tt, refl))
served_fine app s task id (Some x) = happens_fine app s task id x _ _

as_step : (app : Application) (s : State) (t : Turned) → Fine app s t → CommitsOnce app s (turned_step t)
as_step app s t (inl k) = inl (record { by = ap maker_of k.0; lines = k.1.0; tables = ap (durable app.generation) k.1.1 })
as_step app s t (inr e) = inr (record { maker = ByTransaction e.kept; by = ap maker_of e.is; rest = e.rest; acts = e.acts; lines = e.lines })

pub turns_commit_once : TurnsCommitOnce
turns_commit_once app s task =
    as_step app s (turn_of app s task) (of_turn app s task (Fine app s) (λ t r. inl (r.settled, (r.lines, r.tables))) (λ id. served_fine app s task id (find id_cmp id s.active)))

-- ---- the other commands

module _ (app : Application) (s : State) where
  -- lines alone, in a state with these tables
  says_only : (u : State) (lines : List Act) → u.tables ≡ s.tables → AreLines lines → CommitsOnce app s (uncommitted u lines)
  says_only u lines e are = inl (record { by = refl; lines = are; tables = ap (durable app.generation) e })

  says_line : (u : State) (text : Bytes) → u.tables ≡ s.tables → CommitsOnce app s (says u text)
  says_line u text e = says_only u (Emit text ∷ []) e tt

  commits_line : (new : TableRows) (maker : Maker) (text : Bytes) → CommitsOnce app s (committing app s new maker text)
  commits_line new maker text = inr (record { maker = maker; by = refl; rest = Emit text ∷ []; acts = refl; lines = tt })

  rolled_same : (user : Bytes) (b : Bool) → restarts app.generation user ≡ b → durable app.generation (rolled_tables app s.tables user b) ≡ durable app.generation s.tables
  rolled_same user true e = refl
  rolled_same user false e = durable_without app.generation s.tables (Dialogue user) e

  off_line : (pterm user text : Bytes) → CommitsOnce app s (says (signed_off app s pterm user) text)
  unfolding signed_off
  off_line pterm user text = inl (record { by = refl; lines = tt; tables = rolled_same user (restarts app.generation user) refl })

  signed_once : (pterm user lterm : Bytes) (row : Option Service) → CommitsOnce app s (signed_on_by app s pterm user lterm row)
  signed_once pterm user lterm None = says_line (with_session s pterm user None) _ refl
  signed_once pterm user lterm (Some row) = by row.awaits row.last
    where
      by : (awaits : Bool) (last : Option Bytes) → CommitsOnce app s (uncommitted (resumed_by app (with_session s pterm user row.last) user lterm row awaits) (Emit (sys_line pterm (codes "SIGNED ON " ++ user)) ∷ out_again pterm last))
      by true None = says_only _ _ refl tt
      by true (Some message) = says_only _ _ refl tt
      by false None = says_only _ _ refl tt
      by false (Some message) = says_only _ _ refl tt

  show_once : (lterm none : Bytes) (line_of : Bytes → Bytes) (job : Option Job) → CommitsOnce app s (show_by app s lterm none line_of job)
  show_once lterm none line_of None = says_line s none refl
  show_once lterm none line_of (Some job) = commits_line _ _ _

  again_once : (none : Bytes) (line_of : Bytes → Bytes) (value : Option JobValue) → CommitsOnce app s (show_again_by s none line_of value)
  again_once none line_of None = says_line s none refl
  again_once none line_of (Some value) = says_line s _ refl

  display_once : (pterm : Bytes) (last : Option Bytes) → CommitsOnce app s (display s pterm last)
  display_once pterm None = says_line s _ refl
  display_once pterm (Some message) = says_line s _ refl

  next_tables : (user lterm text : Bytes) (o : Option OpenTransaction) (row : Option Service) → (next_by app s user lterm text o row).tables ≡ s.tables
  next_tables user lterm text (Some x) row = refl
  next_tables user lterm text None (Some row) = refl
  next_tables user lterm text None None = refl

  used_once : (pterm lterm user : Bytes) (u : Use) → CommitsOnce app s (used app s pterm lterm user u)
  unfolding used show_next
  used_once pterm lterm user (Sign name) = signed_once pterm name (lterm_at app pterm) (service_of s.tables (Dialogue name))
  used_once pterm lterm user Off = off_line pterm user _
  used_once pterm lterm user Display = display_once pterm (last_by (find bytes_cmp pterm s.signed))
  used_once pterm lterm user Output = show_once lterm _ _ (due_for s lterm)
  used_once pterm lterm user Again = again_once _ _ (shown_of s.tables lterm)
  used_once pterm lterm user (Next text) = says_only _ [] (next_tables user lterm text _ _) tt
  used_once pterm lterm user (Start tac text) = says_only _ [] refl tt
  used_once pterm lterm user _ = says_line s _ refl

  tick_once : (ticks clock : ℕ) (b : Bool) → CommitsOnce app s (tick_by app s ticks clock b)
  tick_once ticks clock true = commits_line _ _ _
  tick_once ticks clock false = says_line s _ refl

  drop_once : (pterm : Bytes) (v : Option Session) → CommitsOnce app s (drop_by app s pterm v)
  drop_once pterm None = says_line s _ refl
  drop_once pterm (Some v) = off_line pterm v.user _

  restart_once : CommitsOnce app s (restarted app s)
  unfolding started
  restart_once = inl (record { by = refl; lines = tt; tables = durable_again app.generation s.tables })

pub commands_commit_once : CommandsCommitOnce
unfolding command_of show_next
commands_commit_once app s (Input pterm text) = used_once app s pterm _ _ (use_now app s pterm text)
commands_commit_once app s (Tick ticks) = tick_once app s ticks _ (nat_le (s.tables.clock + ticks) last_clock)
commands_commit_once app s (Run turns) = says_only app s s [] refl tt
commands_commit_once app s (Turn task) = turns_commit_once app s task
commands_commit_once app s (Drop pterm) = drop_once app s pterm (find bytes_cmp pterm s.signed)
commands_commit_once app s (Print pterm) = show_once app s (lterm_at app pterm) _ _ (due_for s (lterm_at app pterm))
commands_commit_once app s (PrintLast pterm) = again_once app s _ _ (shown_of s.tables (lterm_at app pterm))
commands_commit_once app s Restart = restart_once app s

-- ---- the durable tables after a step

pub steps_make_their_tables : StepsMakeTheirTables
unfolding tables_after
steps_make_their_tables app before d old new (inl k) = lines_after _ d.acts k.lines ∙ sym k.tables
steps_make_their_tables app before d old new (inr c) =
    ap (tables_after (durable app.generation before.tables)) c.acts
    ∙ lines_after _ c.rest c.lines
    ∙ difference_makes_new (durable app.generation before.tables) (durable app.generation d.after.tables) (durable_sorted app.generation before.tables old) (durable_sorted app.generation d.after.tables new)
