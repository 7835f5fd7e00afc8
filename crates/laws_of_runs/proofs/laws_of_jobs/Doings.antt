-- What each commit does.
use Rattle.std.specs.Prelude.{◌≡◌, ◌⊎◌, refl, ℕ, ◌+◌, Bool, true, false, Option, Some, None, nat_le, List, ◌∷◌}
use Rattle.std.proofs.Common.{sym, ap, subst, ◌∙◌, inl, inr}
use Rattle.std.specs.FinMap.{find}
use Rattle.kdcs_types.specs.declared.act.Act.{Act}
use Rattle.kdcs_types.specs.declared.call.Cause.{Cause}
use Rattle.kdcs_types.specs.declared.key.ServiceId.{ServiceId}
use Rattle.kdcs_types.specs.declared.key.ServiceId.TheVariants.{Dialogue, Asynchronous}
use Rattle.kdcs_types.specs.declared.service.Ending.{Ending}
use Rattle.kdcs_types.specs.declared.service.Ending.TheVariants.{Synced, Broken}
use Rattle.kdcs_types.specs.declared.service.Job.{Job}
use Rattle.kdcs_types.specs.declared.service.JobValue.{JobValue}
use Rattle.kdcs_types.specs.declared.service.Service.{Service}
use Rattle.kdcs_types.specs.declared.service.Settled.{Settled}
use Rattle.kdcs_types.specs.Keys.{id_cmp}
use Rattle.kd_base.specs.Limits.{last_clock}
use Rattle.kdcs_types.specs.Tables.{TableRows, service_of, shown_of}
use Rattle.abstract_monitor.specs.declared.answer.Happened.{Happened}
use Rattle.abstract_monitor.specs.declared.answer.Happened.TheVariants.{Settles, Breaks, Returns}
use Rattle.abstract_monitor.specs.declared.input_use.Use.{Use}
use Rattle.abstract_monitor.specs.declared.input_use.Use.TheVariants.{Sign, Display, Output, Again}
use Rattle.abstract_monitor.specs.declared.outcome.Outcome.{Outcome}
use Rattle.abstract_monitor.specs.declared.outcome.Outcome.TheVariants.{Wait, Point, Follow, Finish}
use Rattle.abstract_monitor.specs.Bytes.{Bytes, bytes_cmp}
use Rattle.abstract_monitor.specs.State.{Application, OpenTransaction, Session, State}
use Rattle.abstract_monitor.specs.Endings.{joined, durable, synchronised, refusal, row_after}
use Rattle.abstract_monitor.specs.Lines.{asy_line, prt_line, no_message_line}
use Rattle.abstract_monitor.specs.Statements.{kept_record}
use Rattle.abstract_monitor.specs.Turns.{out_acts, message_acts, Turned, without_transaction, pterm_of_user, after_point, settled_by, settled, abnormal, last_again, back_by, back, happens}
use Rattle.abstract_monitor.specs.Turns.{statement_now, served, turn_of, commit_of}
use Rattle.abstract_monitor.specs.declared.command.Command.TheVariants.{Input, Tick, Run, Turn, Drop, Print, PrintLast, Restart}
use Rattle.abstract_monitor.specs.Commands.{signed_on_by, show_next, show_by, show_again_by, due_for, display, last_by, used, use_now, tick_by, drop_by, command_of, lterm_at, maker_of, turned_step}
use Rattle.laws_of_states.specs.TablesStayLaws.{sent_tables, goes_tables}
use Rattle.laws_of_states.specs.EachTurnLaws.{of_turn}
use Rattle.laws_of_states.specs.Commits.{EndsSo, ending_by}
use Rattle.laws_of_runs.specs.Doings.{tables_by, point_lines, lines_by, Settling, StepMakes}
use Rattle.laws_of_runs.specs.QueueLaws.{TurnsDoSo, CommandsDoSo}

-- ---- a turn

-- a turn makes a commit as its record says, or none
abbrev TurnMakes : Application → State → TableRows → List Act → Option Settled → Type 0
TurnMakes app s after acts None = Unit {0}
TurnMakes app s after acts (Some kept) = Settling app s kept after acts

abbrev Fine : Application → State → Turned → Type 0
Fine app s t = TurnMakes app s t.after.tables t.acts t.settled

message_same : (u s : State) (id : ServiceId) (x : OpenTransaction) → u.signed ≡ s.signed → message_acts u id x ≡ message_acts s id x
message_same u s (Dialogue user) x e = ap (λ (signed : List (Bytes × Session)). out_acts (pterm_of_user signed user) (joined x.parts)) e
message_same u s (Asynchronous number) x e = refl

module _ (app : Application) (s : State) (task : ℕ) (id : ServiceId) (x : OpenTransaction) (is_open : find id_cmp id s.active ≡ Some x) where
  abbrev Ends : Happened → Ending → Type 0
  Ends h e = Settling app s (kept_record id x e) (tables_by app s.tables id x h e) (commit_of app s.tables (tables_by app s.tables id x h e) ∷ lines_by s id x h e)

  ending : (h : Happened) → (statement_now app s id x).1 ≡ h → (e : Ending) → EndsSo app s.tables id x h e → Ends h e
  ending h is e ends = record {
    own = x;
    was_open = is_open;
    kept_is = refl;
    ends = subst (λ (k : Happened). EndsSo app s.tables id x k e) (sym is) ends;
    gives = ap (λ (k : Happened). tables_by app s.tables id x k e) (sym is);
    sends = ap (λ (k : Happened). commit_of app s.tables (tables_by app s.tables id x h e) ∷ lines_by s id x k e) (sym is);
  }

  abbrev point : TableRows → Outcome → List Act
  point new o = commit_of app s.tables new ∷ point_lines s id x o

  -- the same in a state with these tables, and with these lines
  moved : (kept : Settled) (new after : TableRows) (acts lines : List Act) → after ≡ new → lines ≡ acts → Settling app s kept new acts → Settling app s kept after lines
  moved kept new after acts lines e f made = subst (λ (t : TableRows). Settling app s kept t lines) (sym e) (subst (λ (l : List Act). Settling app s kept new l) (sym f) made)

  point_fine : (u : State) (new : TableRows) (kept : Settled) → u.tables ≡ new → u.signed ≡ s.signed → (o : Outcome) (row : Option Service) → Settling app s kept new (point new o) → Fine app s (after_point app u id x o row (commit_of app s.tables new) kept)
  point_fine u new kept e f (Wait tac) row made = moved kept new _ _ _ (sent_tables u id x ∙ e) (ap (λ (l : List Act). commit_of app s.tables new ∷ l) (message_same u s id x f)) made
  point_fine u new kept e f Finish row made = moved kept new _ _ _ (sent_tables u id x ∙ e) (ap (λ (l : List Act). commit_of app s.tables new ∷ l) (message_same u s id x f)) made
  point_fine u new kept e f (Point tac) row made = moved kept new _ _ _ (goes_tables app u id x row ∙ e) refl made
  point_fine u new kept e f (Follow tac) row made = moved kept new _ _ _ (goes_tables app u id x row ∙ e) refl made
  point_fine u new kept e f _ row made = moved kept new _ _ _ e refl made

  refused_fine : (o : Outcome) → (statement_now app s id x).1 ≡ Settles o → (cause : Cause) → EndsSo app s.tables id x (Settles o) (Broken cause) → Fine app s (abnormal app s task id x (Broken cause))
  unfolding abnormal
  refused_fine o is cause ends = ending (Settles o) is (Broken cause) ends

  broken_fine : (e : Ending) → (statement_now app s id x).1 ≡ Breaks e → Fine app s (abnormal app s task id x e)
  unfolding abnormal
  broken_fine e is = ending (Breaks e) is e refl

  settled_fine : (o : Outcome) → (statement_now app s id x).1 ≡ Settles o → Fine app s (settled app s task id x o)
  unfolding settled
  settled_fine o is = by (refusal app.generation (durable app.generation new)) refl
    where
      new : TableRows
      new = synchronised app.generation s.tables id x o

      by : (c : Option Cause) → refusal app.generation (durable app.generation new) ≡ c → Fine app s (settled_by app s task id x o new c)
      by (Some cause) e = refused_fine o is cause (ap ending_by (sym e))
      by None e = point_fine (record (without_transaction s task id) { tables = new }) new (kept_record id x Synced) refl refl o (row_after app.generation id x o) (ending (Settles o) is Synced (ap ending_by (sym e)))

  again_fine : (u : State) (last : Option Bytes) → Fine app s (last_again u id last)
  again_fine u None = tt
  again_fine u (Some message) = by id
    where
      by : (i : ServiceId) → Fine app s (last_again u i (Some message))
      by (Dialogue user) = tt
      by (Asynchronous number) = tt

  back_fine : (u : State) (began : Option Service) → Fine app s (back app u id x began)
  back_fine u None = tt
  back_fine u (Some row) = by row.awaits
    where
      by : (b : Bool) → Fine app s (back_by app u id x row b)
      by true = again_fine u row.last
      by false = tt

  happens_fine : (y : OpenTransaction) (h : Happened) → (statement_now app s id x).1 ≡ h → Fine app s (happens app s task id x y h)
  unfolding happens
  happens_fine y (Settles o) is = settled_fine o is
  happens_fine y (Breaks e) is = broken_fine e is
  happens_fine y Returns is = back_fine (without_transaction s task id) x.began
  happens_fine y _ is = tt

served_fine : (app : Application) (s : State) (task : ℕ) (id : ServiceId) (o : Option OpenTransaction) → find id_cmp id s.active ≡ o → Fine app s (served app s task id o)
served_fine app s task id None e = tt
served_fine app s task id (Some x) e = happens_fine app s task id x e (statement_now app s id x).0 (statement_now app s id x).1 refl

turn_fine : (app : Application) (s : State) (task : ℕ) → Fine app s (turn_of app s task)
turn_fine app s task = of_turn app s task (Fine app s) (λ t r. subst (TurnMakes app s t.after.tables t.acts) (sym r.settled) tt) (λ id. served_fine app s task id (find id_cmp id s.active) refl)

pub turns_do_so : TurnsDoSo
turns_do_so app s task = by (turn_of app s task).settled (turn_fine app s task)
  where
    by : (o : Option Settled) → TurnMakes app s (turn_of app s task).after.tables (turn_of app s task).acts o → StepMakes app s (turned_step (turn_of app s task)) (maker_of o)
    by None h = tt
    by (Some kept) h = h

-- ---- the other commands

module _ (app : Application) (s : State) (pterm : Bytes) where
  shown : (line_of : Bytes → Bytes) → ((message : Bytes) → (line_of message ≡ asy_line pterm message) ⊎ (line_of message ≡ prt_line pterm message)) → (none : Bytes) (job : Option Job) → due_for s (lterm_at app pterm) ≡ job
      → StepMakes app s (show_by app s (lterm_at app pterm) none line_of job) (show_by app s (lterm_at app pterm) none line_of job).by
  shown line_of is none None e = tt
  shown line_of is none (Some job) e = record { job = job; due = e; gives = refl; sends = (pterm, (refl, is job.value.message)) }

signed_none : (app : Application) (s : State) (pterm user lterm : Bytes) (row : Option Service) → StepMakes app s (signed_on_by app s pterm user lterm row) (signed_on_by app s pterm user lterm row).by
signed_none app s pterm user lterm None = tt
signed_none app s pterm user lterm (Some row) = tt

again_none : (app : Application) (s : State) (none : Bytes) (line_of : Bytes → Bytes) (value : Option JobValue) → StepMakes app s (show_again_by s none line_of value) (show_again_by s none line_of value).by
again_none app s none line_of None = tt
again_none app s none line_of (Some value) = tt

display_none : (app : Application) (s : State) (pterm : Bytes) (last : Option Bytes) → StepMakes app s (display s pterm last) (display s pterm last).by
display_none app s pterm None = tt
display_none app s pterm (Some message) = tt

use_does : (app : Application) (s : State) (pterm user : Bytes) (u : Use) → StepMakes app s (used app s pterm (lterm_at app pterm) user u) (used app s pterm (lterm_at app pterm) user u).by
unfolding used show_next
use_does app s pterm user (Sign name) = signed_none app s pterm name (lterm_at app pterm) (service_of s.tables (Dialogue name))
use_does app s pterm user Display = display_none app s pterm (last_by (find bytes_cmp pterm s.signed))
use_does app s pterm user Output = shown app s pterm (asy_line pterm) (λ m. inl refl) (no_message_line pterm) (due_for s (lterm_at app pterm)) refl
use_does app s pterm user Again = again_none app s (no_message_line pterm) (asy_line pterm) (shown_of s.tables (lterm_at app pterm))
use_does app s pterm user _ = tt

tick_does : (app : Application) (s : State) (ticks clock : ℕ) (b : Bool) → StepMakes app s (tick_by app s ticks clock b) (tick_by app s ticks clock b).by
tick_does app s ticks clock true = record { clock = clock; gives = refl }
tick_does app s ticks clock false = tt

drop_none : (app : Application) (s : State) (pterm : Bytes) (v : Option Session) → StepMakes app s (drop_by app s pterm v) (drop_by app s pterm v).by
drop_none app s pterm None = tt
drop_none app s pterm (Some v) = tt

pub commands_do_so : CommandsDoSo
unfolding command_of show_next
commands_do_so app s (Input pterm text) = use_does app s pterm _ (use_now app s pterm text)
commands_do_so app s (Tick ticks) = tick_does app s ticks (s.tables.clock + ticks) (nat_le (s.tables.clock + ticks) last_clock)
commands_do_so app s (Run turns) = tt
commands_do_so app s (Turn task) = turns_do_so app s task
commands_do_so app s (Drop pterm) = drop_none app s pterm (find bytes_cmp pterm s.signed)
commands_do_so app s (Print pterm) = shown app s pterm (prt_line pterm) (λ m. inr refl) (no_message_line pterm) (due_for s (lterm_at app pterm)) refl
commands_do_so app s (PrintLast pterm) = again_none app s (no_message_line pterm) (prt_line pterm) (shown_of s.tables (lterm_at app pterm))
commands_do_so app s Restart = tt
