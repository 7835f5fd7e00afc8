-- Serial equivalence, step by step: each open transaction replays to itself, and each that ends does so as its record.
use Rattle.std.specs.Prelude.{◌≡◌, ℕ, true, false, IsTrue, List, Option, Some, None}
use Rattle.std.specs.List.{list_all}
use Rattle.kdcs_types.specs.declared.key.Area.{Area}
use Rattle.kdcs_types.specs.declared.key.ServiceId.{ServiceId}
use Rattle.kdcs_types.specs.declared.key.ServiceId.TheVariants.{Dialogue, Asynchronous}
use Rattle.kdcs_types.specs.declared.service.JobValue.{JobValue}
use Rattle.kdcs_types.specs.declared.service.Service.{Service}
use Rattle.kdcs_types.specs.declared.service.Settled.{Settled}
use Rattle.kdcs_types.specs.Tables.{TableRows, IsSortedTables, content_of, job_of, service_of}
use Rattle.abstract_monitor.specs.declared.answer.Happened.TheVariants.{Held}
use Rattle.abstract_monitor.specs.Bytes.{Bytes}
use Rattle.abstract_monitor.specs.State.{Application, OpenTransaction, State}
use Rattle.abstract_monitor.specs.Calls.{Told}
use Rattle.abstract_monitor.specs.declared.command.Command.{Command}
use Rattle.abstract_monitor.specs.Commands.{ScriptStep, Maker, started, turned_step, command_of}
use Rattle.abstract_monitor.specs.Trace.{history}
use Rattle.abstract_monitor.specs.Endings.{is_asynchronous, is_durable, durable, opened_by_start, opened_by_input, opened_by_row, opened_by_job, lterm_of_row, followed_by_input}
use Rattle.abstract_monitor.specs.Statements.{Kept, area_of, statement}
use Rattle.abstract_monitor.specs.Turns.{turn_of}
use Rattle.laws_of_states.specs.Facts.{IsConsistent}
use Rattle.laws_of_states.specs.Keeping.{Fact, Leads, HasFacts, HoldsAlong, IsScriptOf}
use Rattle.laws_of_states.specs.Applications.{IsApplication}
use Rattle.laws_of_states.specs.Commits.{IsAtomicCommit, AtomicLaw}
use Rattle.laws_of_states.specs.Suits.{Suits}
use Rattle.laws_of_states.specs.EachStep.{EachStep}
use Rattle.laws_of_states.specs.Replay.{is_made, IsDetermined, IsReplayable, SettlesAs}
use Rattle.laws_of_runs.specs.Replays.{GoesOnAtOnce, SeesTheSame, ReplaysToItself, AllReplay}

-- each way to open a transaction gives one that replays to itself
pub record OpeningsReplay (app : Application) (t : TableRows) : Type 0 where
  -- an input starts a service
  pub starts : (user lterm tac input : Bytes) → ReplaysToItself app t (Dialogue user) (opened_by_start app.generation user lterm tac input)
  -- an input reaches a row that awaits it
  pub inputs : (user : Bytes) (row : Service) (lterm input : Bytes) → row.awaits ≡ true → ReplaysToItself app t (Dialogue user) (opened_by_input app.generation (Dialogue user) row lterm input)
  -- a service goes on from its row
  pub rows : (user : Bytes) (row : Service) (lterm : Bytes) → row.awaits ≡ false → ReplaysToItself app t (Dialogue user) (opened_by_row app.generation (Dialogue user) row lterm)
  pub asynchronous_rows : (number : ℕ) (row : Service) → ReplaysToItself app t (Asynchronous number) (opened_by_row app.generation (Asynchronous number) row (lterm_of_row row.lterm))
  -- a task takes a job
  pub jobs : (number : ℕ) (job : JobValue) (tac : Bytes) → job_of t number ≡ Some job → ReplaysToItself app t (Asynchronous number) (opened_by_job app.generation job tac)

abbrev pub AllOpeningsReplay : Type 0
AllOpeningsReplay = (app : Application) (t : TableRows) → OpeningsReplay app t

-- a statement that goes on at once, told of the content of its area in the tables and of any answer: plain ones, calls, locked reads and writes, UNLK, K04 and K05, PEND PR and PA
abbrev pub StatementsReplay : Type 0
StatementsReplay =
    (app : Application) (t : TableRows) (id : ServiceId) (x : OpenTransaction) (v : Told)
    → ReplaysToItself app t id x → ((area : Area) → area_of app x ≡ Some area → v.content ≡ content_of t area)
    → GoesOnAtOnce (statement app v (is_asynchronous id) x).1 → ReplaysToItself app t id (statement app v (is_asynchronous id) x).0

-- the input after a PEND KP
abbrev pub InputsReplay : Type 0
InputsReplay =
    (app : Application) (t : TableRows) (id : ServiceId) (x : OpenTransaction) (tac text : Bytes)
    → ReplaysToItself app t id x → ((v : Told) → statement app v (is_asynchronous id) x ≡ (x, Held tac)) → ReplaysToItself app t id (followed_by_input app.generation x tac text)

-- other tables in which the transaction sees the same
abbrev pub OtherTablesReplay : Type 0
OtherTablesReplay = (app : Application) (t u : TableRows) (id : ServiceId) (x : OpenTransaction) → SeesTheSame t u id x → ReplaysToItself app t id x → ReplaysToItself app u id x

-- ---- steps and scripts

-- the facts of a state, and that its open transactions replay to themselves
abbrev pub HasReplays : Fact
HasReplays app s = HasFacts app s × AllReplay app s

-- each turn and each command keeps it for all open transactions, and each start has it
abbrev pub StepsKeepReplays : Type 0
StepsKeepReplays = Leads HasReplays HasReplays

-- so it holds of each state of a script
abbrev pub ScriptsKeepReplays : Type 0
ScriptsKeepReplays = HoldsAlong HasReplays

-- over the present tables, with nothing more gained, each is the replay of its record
abbrev pub ReplaysAreRecords : Type 0
ReplaysAreRecords = (app : Application) (s : State) → AllReplay app s → IsReplayable app s

-- ---- ends

-- where each open transaction is the replay of its record, a turn that ends one comes to the tables and the ending that its record, run in one go, makes of the tables before; and the record determines that replay
abbrev pub TurnsEndSerially : Type 0
TurnsEndSerially = (app : Application) (s : State) (task : ℕ) → IsConsistent app s → IsReplayable app s → SettlesAs app s.tables (turn_of app s task).after.tables (turn_of app s task).settled

-- ---- commits

-- a commit that a transaction made is that of its record, run in one go on the durable tables before it
abbrev pub IsSerialBy : Application → State → (after : TableRows) → Option Maker → Type 0
IsSerialBy app s after None = Unit {0}
IsSerialBy app s after (Some by) = AtomicLaw app (durable app.generation s.tables) (durable app.generation after) by

abbrev pub IsSerialStep : Application → State → ScriptStep → Type 0
IsSerialStep app s d = IsSerialBy app s d.after.tables d.by

-- the record of such a commit began with the row that is in the durable tables, where its service outlives a stop
abbrev pub CommitsBeginWithTheirRow : Type 0
CommitsBeginWithTheirRow =
    (app : Application) (before after : TableRows) (kept : Settled) → is_durable app.generation kept.service ≡ true → IsAtomicCommit app before after kept → service_of before kept.service ≡ kept.began

-- a record that determines a replay has no other notes than a run makes
abbrev pub RecordsHaveMadeNotes : Type 0
RecordsHaveMadeNotes = (app : Application) (t : TableRows) (r : Kept) → IsDetermined app t r → IsTrue (list_all is_made r.notes)

abbrev pub TurnsCommitSerially : Type 0
TurnsCommitSerially = (app : Application) (s : State) (task : ℕ) → HasReplays app s → IsSerialStep app s (turned_step (turn_of app s task))

abbrev pub CommandsCommitSerially : Type 0
CommandsCommitSerially = (app : Application) (s : State) (c : Command) → HasReplays app s → IsSerialStep app s (command_of app s c)

-- each commit of a script, from a state whose transactions replay to themselves
abbrev pub HistoriesAreSerial : Type 0
HistoriesAreSerial =
    (app : Application) (s : State) (script : List Command) → IsApplication app → IsScriptOf app script → HasReplays app s → EachStep (IsSerialStep app) s (history app s script)

-- and so each of a run from tables that suit
abbrev pub RunsAreSerial : Type 0
RunsAreSerial =
    (app : Application) (t : TableRows) (script : List Command) → IsApplication app → IsScriptOf app script → IsSortedTables t → Suits app.generation t
    → EachStep (IsSerialStep app) (started app t) (history app (started app t) script)
