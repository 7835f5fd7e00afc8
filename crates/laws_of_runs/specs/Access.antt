-- Who starts what in each step of a run: a dialogue service begins at an input or at a PEND FC that the rule of locks and keys allows, and an input is answered with a denial just where that rule alone forbids it.
use Rattle.std.specs.Prelude.{◌≡◌, ◌⊎◌, ℕ, true, false, List, [], ◌∷◌, map, Option, Some, None, bytes_eq, codes, option_and_then}
use Rattle.std.specs.List.{list_any}
use Rattle.std.specs.FinMap.{find}
use Rattle.kd_base.specs.declared.words.Variant.{Variant}
use Rattle.kdcs_types.specs.declared.key.ServiceId.TheVariants.{Dialogue}
use Rattle.kdcs_types.specs.declared.service.Ending.TheVariants.{Synced}
use Rattle.kdcs_types.specs.declared.service.Service.{Service}
use Rattle.kdcs_types.specs.Keys.{id_cmp}
use Rattle.kdcs_types.specs.Tables.{TableRows, IsSortedTables, service_of}
use Rattle.application_types.specs.declared.kdcdef_types.entry.LtermEntry.{LtermEntry}
use Rattle.application_types.specs.declared.kdcdef_types.entry.TacEntry.{TacEntry}
use Rattle.application_types.specs.declared.kdcdef_types.entry.UserEntry.{UserEntry}
use Rattle.application_types.specs.Generation.{Generated, tac_of, lock_of}
use Rattle.abstract_monitor.specs.declared.access.Denial.{Denial}
use Rattle.abstract_monitor.specs.declared.answer.Happened.TheVariants.{Settles}
use Rattle.abstract_monitor.specs.declared.command.Command.{Command}
use Rattle.abstract_monitor.specs.declared.command.Command.TheVariants.{Input}
use Rattle.abstract_monitor.specs.declared.input_use.ServiceState.{ServiceState}
use Rattle.abstract_monitor.specs.declared.input_use.ServiceState.TheVariants.{NoService}
use Rattle.abstract_monitor.specs.declared.input_use.TacFault.TheVariants.{Denied}
use Rattle.abstract_monitor.specs.declared.input_use.Use.TheVariants.{Start, TacRefused}
use Rattle.abstract_monitor.specs.declared.outcome.Outcome.TheVariants.{Follow}
use Rattle.abstract_monitor.specs.Bytes.{Bytes, bytes_cmp}
use Rattle.abstract_monitor.specs.Access.{Rule, denial_of}
use Rattle.abstract_monitor.specs.State.{Application, OpenTransaction, Session, State}
use Rattle.abstract_monitor.specs.Outcomes.{goes_first}
use Rattle.abstract_monitor.specs.Calls.{follow_up_entry}
use Rattle.abstract_monitor.specs.Sessions.{first_word, tac_named, service_state, use_under, use_of}
use Rattle.abstract_monitor.specs.Statements.{kept_record}
use Rattle.abstract_monitor.specs.Lines.{sys_line}
use Rattle.abstract_monitor.specs.Turns.{statement_now, turn_of}
use Rattle.abstract_monitor.specs.Commands.{ScriptStep, ByTransaction, says, lterm_at, user_at, denial_text, use_now, turned_step, command_of, started}
use Rattle.abstract_monitor.specs.Trace.{history, trace}
use Rattle.laws_of_states.specs.Applications.{IsApplication}
use Rattle.laws_of_states.specs.EachStep.{EachStep}
use Rattle.laws_of_states.specs.Keeping.{HasFacts, IsScriptOf}
use Rattle.laws_of_states.specs.Suits.{Suits}

-- ---- beginnings

-- the row is of a service with this first TAC
abbrev pub RowIsOf : Bytes → Option Service → Type 0
RowIsOf tac None = ⊥
RowIsOf tac (Some row) = row.first ≡ tac

-- so is the open transaction
abbrev pub OpenIsOf : Bytes → Option OpenTransaction → Type 0
OpenIsOf tac None = ⊥
OpenIsOf tac (Some x) = x.first ≡ tac

-- the user has a dialogue service with this first TAC, by its row or by its open transaction
abbrev pub IsThere : State → (user tac : Bytes) → Type 0
IsThere s user tac = RowIsOf tac (service_of s.tables (Dialogue user)) ⊎ OpenIsOf tac (find id_cmp (Dialogue user) s.active)

-- the step is an input of the user, at a terminal with this LTERM, that starts a service with this TAC
pub record BeginsByInput (app : Application) (before : State) (d : ScriptStep) (user lterm tac : Bytes) : Type 0 where
  pub pterm : Bytes
  pub text : Bytes
  pub message : Bytes
  pub who : user_at before pterm ≡ user
  pub where_at : lterm_at app pterm ≡ lterm
  pub meant : use_now app before pterm text ≡ Start tac message
  pub step : d ≡ command_of app before (Input pterm text)

-- the step is the synchronisation point by which a PEND FC of the user's service at this LTERM begins one with this TAC
pub record BeginsByFollow (app : Application) (before : State) (d : ScriptStep) (user lterm tac : Bytes) : Type 0 where
  pub own : OpenTransaction
  pub was_open : find id_cmp (Dialogue user) before.active ≡ Some own
  pub where_at : own.lterm ≡ lterm
  pub ends : (statement_now app before (Dialogue user) own).1 ≡ Settles (Follow tac)
  pub step : d.by ≡ Some (ByTransaction (kept_record (Dialogue user) own Synced))

-- a dialogue service begins at this step
abbrev pub Begins : Application → State → ScriptStep → (user lterm tac : Bytes) → Type 0
Begins app before d user lterm tac = BeginsByInput app before d user lterm tac ⊎ BeginsByFollow app before d user lterm tac

-- the service was there before the step, or begins at it
abbrev pub WasThereOrBegins : Application → State → ScriptStep → (user tac : Bytes) → Type 0
WasThereOrBegins app before d user tac = IsThere before user tac ⊎ ((lterm : Bytes) × Begins app before d user lterm tac)

-- ---- inputs that are denied

-- the words of the commands of a terminal
abbrev pub terminal_commands : List Bytes
terminal_commands = codes "KDCSIGN" ∷ codes "KDCDISP" ∷ codes "KDCOUT" ∷ codes "KDCLAST" ∷ codes "KDCOFF" ∷ []

-- all tests of an input that come before the rule are passed: the user is signed on and has no service, and the first word is a dialogue TAC that is on and may begin a service
pub record AsksToStart (app : Application) (s : State) (pterm text user tac : Bytes) : Type 0 where
  pub session : Session
  pub signed : find bytes_cmp pterm s.signed ≡ Some session
  pub who : session.user ≡ user
  pub free : service_state s user ≡ NoService
  pub word : (first_word text).word ≡ tac
  pub no_command : list_any (bytes_eq tac) terminal_commands ≡ false
  pub entry : TacEntry
  pub named : tac_named app.generation tac ≡ Some entry
  pub dialogue : entry.asynchronous ≡ false
  pub first : goes_first entry.call ≡ true
  pub on : entry.on ≡ true

-- and the rule denies it
pub record IsForbidden (app : Application) (s : State) (pterm text : Bytes) (why : Denial) : Type 0 where
  pub user : Bytes
  pub tac : Bytes
  pub asks : AsksToStart app s pterm text user tac
  pub denies : denial_of app.generation user (lterm_at app pterm) tac ≡ Some why

-- an input is denied just where the rule forbids it
pub record AnswersDenials (app : Application) (s : State) (pterm text : Bytes) : Type 0 where
  pub forbidden : (why : Denial) → IsForbidden app s pterm text why → use_now app s pterm text ≡ TacRefused (Denied why)
  pub only : (why : Denial) → use_now app s pterm text ≡ TacRefused (Denied why) → IsForbidden app s pterm text why
  -- it changes nothing, and its line says whose key set lacks which code
  pub line : (why : Denial) → use_now app s pterm text ≡ TacRefused (Denied why) → command_of app s (Input pterm text) ≡ says s (sys_line pterm (denial_text why))

-- ---- steps and runs

-- what a step does is allowed
pub record KeepsAccess (app : Application) (before : State) (d : ScriptStep) : Type 0 where
  -- a service comes to be there by a beginning alone
  pub begins : (user tac : Bytes) → IsThere d.after user tac → WasThereOrBegins app before d user tac
  -- and the rule denies no beginning
  pub allowed : (user lterm tac : Bytes) → Begins app before d user lterm tac → denial_of app.generation user lterm tac ≡ None
  pub denials : (pterm text : Bytes) → d ≡ command_of app before (Input pterm text) → AnswersDenials app before pterm text

abbrev pub TurnsKeepAccess : Type 0
TurnsKeepAccess = (app : Application) (s : State) (task : ℕ) → HasFacts app s → KeepsAccess app s (turned_step (turn_of app s task))

abbrev pub CommandsKeepAccess : Type 0
CommandsKeepAccess = (app : Application) (s : State) (c : Command) → HasFacts app s → KeepsAccess app s (command_of app s c)

-- each step of each script does
abbrev pub RunsKeepAccess : Type 0
RunsKeepAccess =
    (app : Application) (t : TableRows) (script : List Command) → IsApplication app → IsScriptOf app script → IsSortedTables t → Suits app.generation t
    → EachStep (KeepsAccess app) (started app t) (history app (started app t) script)

-- ---- generations without locks

-- no TAC has a lock
abbrev pub HasNoLocks : Generated → Type 0
HasNoLocks g = (tac : Bytes) → lock_of g tac ≡ None

-- nothing is denied
abbrev pub no_rule : Rule
no_rule user lterm tac = None

-- inputs and the follow-ups of PENDs are what they are without a rule
pub record IsWithoutRule (g : Generated) : Type 0 where
  pub inputs : (signed : List (Bytes × Session)) (state : ServiceState) (pterm text : Bytes) → use_of g signed state pterm text ≡ use_under no_rule g signed state pterm text
  pub follow_ups : (x : OpenTransaction) (variant : Variant) (name : Option Bytes) → follow_up_entry (denial_of g) g x variant name ≡ option_and_then (tac_of g) name

abbrev pub LocksMakeTheRule : Type 0
LocksMakeTheRule = (g : Generated) → HasNoLocks g → IsWithoutRule g

-- a user and an LTERM that have no key set
abbrev pub user_without_keys : UserEntry → UserEntry
user_without_keys user = record user { kset = None }

abbrev pub lterm_without_keys : LtermEntry → LtermEntry
lterm_without_keys lterm = record lterm { kset = None }

-- the generation without key sets: none is there, and no user and no LTERM has one
abbrev pub without_keys : Generated → Generated
without_keys g = record g {
  users = map (λ (e : Bytes × UserEntry). (e.0, user_without_keys e.1)) g.users;
  lterms = map (λ (e : Bytes × LtermEntry). (e.0, lterm_without_keys e.1)) g.lterms;
  ksets = [];
}

-- the application without key sets
abbrev pub keyless : Application → Application
keyless app = record app { generation = without_keys app.generation }

-- each script does, step by step and from every state, what it does without key sets; so from all tables it has the trace that it has without them
pub record RunsAsKeyless (app : Application) : Type 0 where
  pub steps : (s : State) (script : List Command) → history app s script ≡ history (keyless app) s script
  pub traces : (t : TableRows) (script : List Command) → trace app t script ≡ trace (keyless app) t script

abbrev pub LocksMakeTheTrace : Type 0
LocksMakeTheTrace = (app : Application) → HasNoLocks app.generation → RunsAsKeyless app
