-- What each script command does.
use Rattle.std.specs.Prelude.{ℕ, zero, suc, ◌+◌, Bool, true, false, not, List, [], ◌∷◌, ◌++◌, map, replicate, filter, flat_map, codes, decimal, bytes_eq, Option, Some, None, nat_le, ◌==◌}
use Rattle.std.specs.Prelude.{if◌then◌else◌}
use Rattle.std.specs.FinMap.{find, put}
use Rattle.std.specs.FinMap.Entries.{where_key}
use Rattle.kdcs_types.specs.declared.act.Act.{Act}
use Rattle.kdcs_types.specs.declared.act.Act.TheVariants.{Emit}
use Rattle.kdcs_types.specs.declared.act.Row.TheVariants.{Shown as ShownRow}
use Rattle.kdcs_types.specs.declared.act.Change.TheVariants.{Set}
use Rattle.kdcs_types.specs.declared.key.ServiceId.{ServiceId}
use Rattle.kdcs_types.specs.declared.key.ServiceId.TheVariants.{Dialogue}
use Rattle.kdcs_types.specs.declared.key.Target.{Target}
use Rattle.kdcs_types.specs.declared.key.Target.TheVariants.{Tac, Lterm}
use Rattle.kdcs_types.specs.declared.service.Job.{Job}
use Rattle.kdcs_types.specs.declared.service.JobValue.{JobValue}
use Rattle.kdcs_types.specs.declared.service.Service.{Service}
use Rattle.kdcs_types.specs.declared.service.Settled.{Settled}
use Rattle.application_types.specs.Generation.{pterm_of}
use Rattle.kd_base.specs.Limits.{last_clock}
use Rattle.kdcs_types.specs.Tables.{TableRows, service_of, shown_of, with_change}
use Rattle.kdcs_types.specs.Keys.{id_cmp, id_eq}
use Rattle.abstract_monitor.specs.declared.access.Denial.{Denial}
use Rattle.abstract_monitor.specs.declared.access.Denial.TheVariants as denial
use Rattle.abstract_monitor.specs.declared.answer.Happened.{Happened}
use Rattle.abstract_monitor.specs.declared.answer.Happened.TheVariants.{Held}
use Rattle.abstract_monitor.specs.declared.command.Command.{Command}
use Rattle.abstract_monitor.specs.declared.command.Command.TheVariants.{Input, Tick, Run, Turn, Drop, Print, PrintLast, Restart}
use Rattle.abstract_monitor.specs.declared.input_use.SignFault.{SignFault}
use Rattle.abstract_monitor.specs.declared.input_use.SignFault.TheVariants.{BadForm, UnknownUser, WrongPassword, InUse}
use Rattle.abstract_monitor.specs.declared.input_use.TacFault.{TacFault}
use Rattle.abstract_monitor.specs.declared.input_use.TacFault.TheVariants.{UnknownTac, NotAllowed, IsOff, Denied}
use Rattle.abstract_monitor.specs.declared.input_use.Use.{Use}
use Rattle.abstract_monitor.specs.declared.input_use.Use.TheVariants.{Sign, SignRefused, SignFirst, AlreadySigned, Off, Display, Output, Again, Busy, TooLong, Next, Start, TacRefused}
use Rattle.abstract_monitor.specs.Bytes.{Bytes, bytes_cmp}
use Rattle.abstract_monitor.specs.State.{Application, OpenTransaction, Session, State}
use Rattle.abstract_monitor.specs.Endings.{is_asynchronous, opened_by_start, opened_by_input, opened_by_row, lterm_of_row, followed_by_input, with_service, without_job, durable, restarts}
use Rattle.abstract_monitor.specs.Calls.{nothing_told}
use Rattle.abstract_monitor.specs.Statements.{statement}
use Rattle.abstract_monitor.specs.Lines.{sys_line, out_line, asy_line, prt_line, no_message_line, tick_line, tick_refused_line, restart_line}
use Rattle.abstract_monitor.specs.Picks.{free_jobs, due_job}
use Rattle.abstract_monitor.specs.Turns.{Turned, commit_of, queued, without_open, turn_of}
use Rattle.abstract_monitor.specs.Sessions.{in_place, service_state, lterm_by, use_of}

-- what made a commit
pub data Maker : Type 0 where
  ByTick : (ticks : ℕ) → Maker
  -- KDCOUT or PRINT at this LTERM
  ByShow : (lterm : Bytes) → Maker
  ByTransaction : (kept : Settled) → Maker

-- one step of a script: the state after a turn or another command, its acts, and what made its commit, if it has one
pub record ScriptStep : Type 0 where
  pub after : State
  pub acts : List Act
  pub by : Option Maker

-- a step without a commit
abbrev pub uncommitted : State → List Act → ScriptStep
uncommitted s acts = record { after = s; acts = acts; by = None }

-- a commit that makes these tables, and a line
abbrev pub committing : Application → State → TableRows → Maker → (text : Bytes) → ScriptStep
committing app s new maker text = record { after = record s { tables = new }; acts = commit_of app s.tables new ∷ Emit text ∷ []; by = Some maker }

-- a line alone
abbrev pub says : State → Bytes → ScriptStep
says s text = uncommitted s (Emit text ∷ [])

-- ---- start

-- the asynchronous services, in the order of their numbers
abbrev pub asynchronous_rows : TableRows → List Service
asynchronous_rows t = filter (λ (s : Service). is_asynchronous s.id) t.services

-- a service with the transaction that goes on from its row
abbrev pub opened_row : Application → Service → ServiceId × OpenTransaction
opened_row app row = (row.id, opened_by_row app.generation row.id row (lterm_of_row row.lterm))

-- a cold or warm start: nobody signed on, all tasks empty, the asynchronous services ready in the order of their numbers
unfoldable pub started : Application → TableRows → State
started app t = record {
  tables = t;
  signed = [];
  ready = map (λ (s : Service). s.id) (asynchronous_rows t);
  tasks = replicate app.generation.limits.tasks None;
  active = map (opened_row app) (asynchronous_rows t);
  waits = [];
}

-- ---- terminals

-- the LTERM of a PTERM
abbrev pub lterm_at : Application → Bytes → Bytes
lterm_at app pterm = lterm_by (pterm_of app.generation pterm)

-- no user where there is no session
abbrev pub user_by : Option Session → Bytes
user_by None = []
user_by (Some v) = v.user

-- who is signed on at a PTERM
abbrev pub user_at : State → Bytes → Bytes
user_at s pterm = user_by (find bytes_cmp pterm s.signed)

-- why a KDCSIGN is refused
abbrev pub fault_text : SignFault → Bytes
fault_text BadForm = codes "BAD SIGN ON"
fault_text UnknownUser = codes "UNKNOWN USER"
fault_text WrongPassword = codes "WRONG PASSWORD"
fault_text InUse = codes "USER IS SIGNED ON"

-- whose keys have no such code
abbrev pub denial_text : Denial → Bytes
denial_text (denial.User code) = codes "TAC DENIED USER " ++ decimal code
denial_text (denial.Lterm code) = codes "TAC DENIED LTERM " ++ decimal code

-- why a TAC is refused
abbrev pub refusal_text : TacFault → Bytes
refusal_text UnknownTac = codes "UNKNOWN TAC"
refusal_text NotAllowed = codes "TAC NOT ALLOWED"
refusal_text IsOff = codes "TAC IS OFF"
refusal_text (Denied why) = denial_text why

-- ---- sign-on and sign-off

-- the user is signed on at this PTERM
abbrev pub with_session : State → (pterm user : Bytes) → (last : Option Bytes) → State
with_session s pterm user last = record s { signed = put bytes_cmp pterm (record { user = user; last = last }) s.signed }

-- nobody is signed on at this PTERM
abbrev pub without_session : State → (pterm : Bytes) → State
without_session s pterm = record s { signed = where_key bytes_cmp (λ p. not (bytes_eq pterm p)) s.signed }

-- the last dialogue message, where there is one
abbrev pub out_again : Bytes → Option Bytes → List Act
out_again pterm None = []
out_again pterm (Some message) = Emit (out_line pterm message) ∷ []

-- a row that awaits an input goes on waiting
abbrev pub resumed_by : Application → State → (user lterm : Bytes) → Service → (awaits : Bool) → State
resumed_by app s user lterm row true = s
resumed_by app s user lterm row false = queued s (Dialogue user) (opened_by_row app.generation (Dialogue user) row lterm)

-- a user with an open service sees its last dialogue message again; one that awaits no input becomes ready
abbrev pub signed_on_by : Application → State → (pterm user lterm : Bytes) → Option Service → ScriptStep
signed_on_by app s pterm user lterm None = says (with_session s pterm user None) (sys_line pterm (codes "SIGNED ON " ++ user))
signed_on_by app s pterm user lterm (Some row) =
    uncommitted (resumed_by app (with_session s pterm user row.last) user lterm row row.awaits) (Emit (sys_line pterm (codes "SIGNED ON " ++ user)) ∷ out_again pterm row.last)

-- KDCSIGN of a user
abbrev pub signed_on : Application → State → (pterm user : Bytes) → ScriptStep
signed_on app s pterm user = signed_on_by app s pterm user (lterm_at app pterm) (service_of s.tables (Dialogue user))

-- a task that held this service is free
abbrev pub no_place : ServiceId → Option ServiceId → Option ServiceId
no_place id place = if in_place id place then None else place

-- the service is neither ready nor in a task, and has no open transaction
abbrev pub withdrawn : State → ServiceId → State
withdrawn s id = record (without_open s id) { ready = filter (λ (i : ServiceId). not (id_eq id i)) s.ready; tasks = map (no_place id) s.tasks }

-- a user with RESTART=YES keeps the row of the last synchronisation point
abbrev pub rolled_tables : Application → TableRows → Bytes → Bool → TableRows
rolled_tables app t user true = t
rolled_tables app t user false = with_service t (Dialogue user) None

-- KDCOFF and DROP: the open transaction is rolled back, and a service of a RESTART=NO user is over; neither is a commit
unfoldable pub signed_off : Application → State → (pterm user : Bytes) → State
signed_off app s pterm user = record (without_session (withdrawn s (Dialogue user)) pterm) { tables = rolled_tables app s.tables user (restarts app.generation user) }

-- ---- jobs for LTERMs

-- the job goes to this LTERM
abbrev pub is_for : Bytes → Target → Bool
is_for lterm (Tac tac) = false
is_for lterm (Lterm other) = bytes_eq lterm other

-- the job for this LTERM with the least due and number, of those that are due
abbrev pub due_for : State → (lterm : Bytes) → Option Job
due_for s lterm = due_job s.tables.clock (is_for lterm) (free_jobs s.active s.tables.jobs)

-- the job leaves the tables, and its value is the shown message
abbrev pub shown_tables : TableRows → (lterm : Bytes) → Job → TableRows
shown_tables t lterm job = with_change (without_job t job.number) (Set (ShownRow lterm job.value))

-- without a due job there is no commit
abbrev pub show_by : Application → State → (lterm : Bytes) → (no_message : Bytes) → (line_of : Bytes → Bytes) → Option Job → ScriptStep
show_by app s lterm no_message line_of None = says s no_message
show_by app s lterm no_message line_of (Some job) = committing app s (shown_tables s.tables lterm job) (ByShow lterm) (line_of job.value.message)

-- KDCOUT and PRINT
unfoldable pub show_next : Application → State → (lterm : Bytes) → (no_message : Bytes) → (line_of : Bytes → Bytes) → ScriptStep
show_next app s lterm no_message line_of = show_by app s lterm no_message line_of (due_for s lterm)

-- a line alone
abbrev pub show_again_by : State → (no_message : Bytes) → (line_of : Bytes → Bytes) → Option JobValue → ScriptStep
show_again_by s no_message line_of None = says s no_message
show_again_by s no_message line_of (Some value) = says s (line_of value.message)

-- KDCLAST and PRINT LAST
abbrev pub show_again : State → (lterm : Bytes) → (no_message : Bytes) → (line_of : Bytes → Bytes) → ScriptStep
show_again s lterm no_message line_of = show_again_by s no_message line_of (shown_of s.tables lterm)

-- ---- inputs

-- none where nobody is signed on
abbrev pub last_by : Option Session → Option Bytes
last_by None = None
last_by (Some v) = v.last

-- KDCDISP: the last OUT message of this session
abbrev pub display : State → (pterm : Bytes) → Option Bytes → ScriptStep
display s pterm None = says s (no_message_line pterm)
display s pterm (Some message) = says s (out_line pterm message)

-- the follow-up that a PEND KP names; no run asks it of another statement
abbrev pub follow_up_of : Happened → Bytes
follow_up_of (Held tac) = tac
follow_up_of _ = []

-- the TAC that reads the next input of a dialogue service that is at a PEND KP, which asks of no area
abbrev pub held_tac : Application → OpenTransaction → Bytes
held_tac app x = follow_up_of (statement app nothing_told false x).1

-- after PEND KP the open transaction goes on with the input, else the service's row does; an input that is awaited finds one of them
abbrev pub next_by : Application → State → (user lterm text : Bytes) → Option OpenTransaction → Option Service → State
next_by app s user lterm text (Some x) row =
    queued s (Dialogue user) (followed_by_input app.generation x (held_tac app x) text)
next_by app s user lterm text None (Some row) = queued s (Dialogue user) (opened_by_input app.generation (Dialogue user) row lterm text)
next_by app s user lterm text None None = s

-- the input that a service awaits
abbrev pub next_input : Application → State → (user lterm text : Bytes) → State
next_input app s user lterm text = next_by app s user lterm text (find id_cmp (Dialogue user) s.active) (service_of s.tables (Dialogue user))

-- an input starts a service
abbrev pub start_service : Application → State → (user lterm tac text : Bytes) → State
start_service app s user lterm tac text = queued s (Dialogue user) (opened_by_start app.generation user lterm tac text)

-- what the use of an input does
unfoldable pub used : Application → State → (pterm lterm user : Bytes) → Use → ScriptStep
used app s pterm lterm user (Sign name) = signed_on app s pterm name
used app s pterm lterm user (SignRefused fault) = says s (sys_line pterm (fault_text fault))
used app s pterm lterm user SignFirst = says s (sys_line pterm (codes "SIGN ON FIRST"))
used app s pterm lterm user AlreadySigned = says s (sys_line pterm (codes "ALREADY SIGNED ON"))
used app s pterm lterm user Off = says (signed_off app s pterm user) (sys_line pterm (codes "SIGNED OFF " ++ user))
used app s pterm lterm user Display = display s pterm (last_by (find bytes_cmp pterm s.signed))
used app s pterm lterm user Output = show_next app s lterm (no_message_line pterm) (asy_line pterm)
used app s pterm lterm user Again = show_again s lterm (no_message_line pterm) (asy_line pterm)
used app s pterm lterm user Busy = says s (sys_line pterm (codes "SERVICE RUNNING"))
used app s pterm lterm user TooLong = says s (sys_line pterm (codes "INPUT TOO LONG"))
used app s pterm lterm user (Next text) = uncommitted (next_input app s user lterm text) []
used app s pterm lterm user (Start tac text) = uncommitted (start_service app s user lterm tac text) []
used app s pterm lterm user (TacRefused fault) = says s (sys_line pterm (refusal_text fault))

-- what an input means, as the system stands
unfoldable pub use_now : Application → State → (pterm text : Bytes) → Use
use_now app s pterm text = use_of app.generation s.signed (service_state s (user_at s pterm)) pterm text

-- ---- the other commands

-- a clock past the greatest one is refused, without a commit
abbrev pub tick_by : Application → State → (ticks clock : ℕ) → (within : Bool) → ScriptStep
tick_by app s ticks clock false = says s tick_refused_line
tick_by app s ticks clock true = committing app s (record s.tables { clock = clock }) (ByTick ticks) (tick_line clock)

-- TICK within the greatest clock
abbrev pub ticked : Application → State → (ticks : ℕ) → ScriptStep
ticked app s ticks = tick_by app s ticks (s.tables.clock + ticks) (nat_le (s.tables.clock + ticks) last_clock)

-- DROP of a terminal, with or without a session
abbrev pub drop_by : Application → State → (pterm : Bytes) → Option Session → ScriptStep
drop_by app s pterm None = says s (sys_line pterm (codes "NOT SIGNED ON"))
drop_by app s pterm (Some v) = says (signed_off app s pterm v.user) (sys_line pterm (codes "DROPPED"))

-- RESTART: a warm start from the durable tables
abbrev pub restarted : Application → State → ScriptStep
restarted app s = says (started app (durable app.generation s.tables)) restart_line

-- ---- turns in rotation

-- the tasks in rotation
abbrev pub next_task : Application → ℕ → ℕ
next_task app task = if task == app.generation.limits.tasks then 1 else task + 1

-- how many turns in a row moved nothing
abbrev pub in_a_row : (moved : Bool) → ℕ → ℕ
in_a_row true n = 0
in_a_row false n = n + 1

-- a commit of a turn is that of its transaction
abbrev pub maker_of : Option Settled → Option Maker
maker_of None = None
maker_of (Some kept) = Some (ByTransaction kept)

-- a turn as a step
abbrev pub turned_step : Turned → ScriptStep
turned_step t = record { after = t.after; acts = t.acts; by = maker_of t.settled }

-- at most so many turns from this task on, after so many in a row that moved nothing; TASKS such turns end it
unfoldable pub rotated : Application → (turns : ℕ) → (ended : Bool) → State → (task : ℕ) → (unmoved : ℕ) → List ScriptStep
rotated app zero ended s task unmoved = []
rotated app (suc n) true s task unmoved = []
rotated app (suc n) false s task unmoved =
    let turned = turn_of app s task in
    let row = in_a_row turned.moved unmoved in
    turned_step turned ∷ rotated app n (row == app.generation.limits.tasks) turned.after (next_task app task) row

-- the state after some steps
unfoldable pub state_after : State → List ScriptStep → State
state_after s [] = s
state_after s (d ∷ ds) = state_after d.after ds

-- all their acts, in order
abbrev pub acts_of : List ScriptStep → List Act
acts_of steps = flat_map (λ (d : ScriptStep). d.acts) steps

-- what a command does in one step; RUN is a list of turns and none itself
unfoldable pub command_of : Application → State → Command → ScriptStep
command_of app s (Input pterm text) = used app s pterm (lterm_at app pterm) (user_at s pterm) (use_now app s pterm text)
command_of app s (Tick ticks) = ticked app s ticks
command_of app s (Run turns) = uncommitted s []
command_of app s (Turn task) = turned_step (turn_of app s task)
command_of app s (Drop pterm) = drop_by app s pterm (find bytes_cmp pterm s.signed)
command_of app s (Print pterm) = show_next app s (lterm_at app pterm) (no_message_line pterm) (prt_line pterm)
command_of app s (PrintLast pterm) = show_again s (lterm_at app pterm) (no_message_line pterm) (prt_line pterm)
command_of app s Restart = restarted app s

-- the steps of a command: RUN makes one for each turn, and any other command one
unfoldable pub steps_of : Application → State → Command → List ScriptStep
steps_of app s (Run turns) = rotated app turns false s 1 0
steps_of app s (Input pterm text) = command_of app s (Input pterm text) ∷ []
steps_of app s (Tick ticks) = command_of app s (Tick ticks) ∷ []
steps_of app s (Turn task) = command_of app s (Turn task) ∷ []
steps_of app s (Drop pterm) = command_of app s (Drop pterm) ∷ []
steps_of app s (Print pterm) = command_of app s (Print pterm) ∷ []
steps_of app s (PrintLast pterm) = command_of app s (PrintLast pterm) ∷ []
steps_of app s Restart = command_of app s Restart ∷ []
