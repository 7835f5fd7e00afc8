-- Lines that are typed: what is printed of each, and what the monitor comes to.
use Rattle.std.specs.Prelude.{◌≡◌, ℕ, ◌+◌, ◌<◌, Bool, true, ⊤, List, [], ◌∷◌, ◌++◌, length, flat_map, codes, Option, Some, None, Result, Ok, Err}
use Rattle.abstract_monitor.specs.declared.command.Command.{Command}
use Rattle.abstract_monitor.specs.Commands.{state_after}
use Rattle.abstract_monitor.specs.Listing.{listing}
use Rattle.abstract_monitor.specs.State.{Application, State}
use Rattle.abstract_monitor.specs.Trace.{history}
use Rattle.laws_of_states.specs.Keeping.{IsScriptOf}
use Rattle.script_read.specs.declared.fault.ScriptFault.{ScriptFault}
use Rattle.typed_lines.specs.declared.typed.Question.TheVariants.{Show, Locks, Tasks, Jobs, Counts, Echo}
use Rattle.typed_lines.specs.declared.typed.Switch.TheVariants as switches
use Rattle.typed_lines.specs.declared.typed.Typed.{Typed}
use Rattle.typed_lines.specs.declared.typed.Typed.TheVariants as typed
use Rattle.typed_lines.specs.Commands.{commands_in, refused_line}
use Rattle.typed_lines.specs.Typing.{typed_of}
use Rattle.monitor_core.specs.CoreValue.{CoreValue}
use Rattle.lab_turns.specs.Consoles.{Passed, Ended, Typed as TypedLine, printed}
use Rattle.lab_turns.specs.Heard.{Heard, HearsScript, TellsScript}
use Rattle.lab_turns.specs.Running.{DidSteps}
use Rattle.lab_turns.specs.TurnLines.{tale_text}
use Rattle.lab_scripts.specs.declared.asking.Ask.{Ask}
use Rattle.lab_scripts.specs.declared.asking.Ask.TheVariants.{Lists, Auto, Trace, Script}
use Rattle.lab_scripts.specs.declared.asking.Listed.{Listed}
use Rattle.lab_scripts.specs.declared.asking.Listed.TheVariants as listed

-- ---- what a line asks for

-- a question, a switch, or else a line of a script; COUNTS and ECHO are asked in a live session alone
abbrev pub ask_by : Typed → Ask
ask_by (typed.Question Show) = Lists listed.Tables
ask_by (typed.Question Locks) = Lists listed.Locks
ask_by (typed.Question Tasks) = Lists listed.Tasks
ask_by (typed.Question Jobs) = Lists listed.Jobs
ask_by (typed.Question Counts) = Script
ask_by (typed.Question Echo) = Script
ask_by (typed.Switch (switches.Auto on)) = Auto on
ask_by (typed.Switch (switches.Trace on)) = Trace on
ask_by typed.Script = Script

abbrev pub ask_of : List ℕ → Ask
ask_of line = ask_by (typed_of line)

-- ---- a line of a script

-- what it says is performed; one that is refused changes nothing
abbrev pub Performs : CoreValue → Result (List Command) ScriptFault → CoreValue → Option ScriptFault → Type 0
Performs c (Ok commands) d refused = IsScriptOf c.application commands × DidSteps c (history c.application c.state commands) d × (refused ≡ None)
Performs c (Err why) d refused = (d ≡ c) × (refused ≡ Some why)

-- what is heard of it
abbrev pub HearsLine : {L : Type 0} → (hears : L → List Heard → L → Type 0) → CoreValue → Result (List Command) ScriptFault → L → L → Type 0
HearsLine hears c (Ok commands) a b = HearsScript hears c.application c.state commands a b
HearsLine hears c (Err why) a b = hears a [] b

-- ---- a session

-- between two lines: the monitor's state, whether the tasks work after an input, whether turns are printed, and the number of the next line, from 1
pub record Session : Type 0 where
  pub state : State
  pub auto : Bool
  pub traces : Bool
  pub number : ℕ

-- where a session begins
abbrev pub session_from : State → (traces : Bool) → Session
session_from s traces = record { state = s; auto = true; traces = traces; number = 1 }

-- the tables are listed as `show` lists them; of locks, tasks and jobs something is said
abbrev pub IsListed : State → (text : List ℕ) → Listed → Type 0
IsListed s text listed.Tables = text ≡ listing s.tables
IsListed s text listed.Locks = 0 < length text
IsListed s text listed.Tasks = 0 < length text
IsListed s text listed.Jobs = 0 < length text

-- of accepted commands the text of all that is heard of them is printed, and of a line that is refused its refusal
abbrev pub PrintsSaid : Application → (source : List (List ℕ)) → Session → (text : List ℕ) → Result (List Command) ScriptFault → Type 0
PrintsSaid app source v text (Ok commands) = IsScriptOf app commands × ((tale : List Heard) × TellsScript app v.state commands tale × (text ≡ tale_text v.traces source tale))
PrintsSaid app source v text (Err fault) = text ≡ refused_line v.number fault

-- a switch prints nothing
abbrev pub PrintsAsked : Application → (source : List (List ℕ)) → Session → (line text : List ℕ) → Ask → Type 0
PrintsAsked app source v line text (Lists which) = IsListed v.state text which
PrintsAsked app source v line text (Auto on) = text ≡ []
PrintsAsked app source v line text (Trace on) = text ≡ []
PrintsAsked app source v line text Script = PrintsSaid app source v text (commands_in app.generation v.auto line)

-- this is printed of a line
unfoldable pub PrintsLine : Application → (source : List (List ℕ)) → Session → (line text : List ℕ) → Type 0
PrintsLine app source v line text = PrintsAsked app source v line text (ask_of line)

-- accepted commands bring the monitor to the state after their history, and a line that is refused changes nothing
abbrev pub state_said : Application → State → Result (List Command) ScriptFault → State
state_said app s (Ok commands) = state_after s (history app s commands)
state_said app s (Err fault) = s

abbrev pub state_asked : Application → Session → (line : List ℕ) → Ask → State
state_asked app v line (Lists which) = v.state
state_asked app v line (Auto on) = v.state
state_asked app v line (Trace on) = v.state
state_asked app v line Script = state_said app v.state (commands_in app.generation v.auto line)

abbrev pub auto_asked : Bool → Ask → Bool
auto_asked auto (Lists which) = auto
auto_asked auto (Auto on) = on
auto_asked auto (Trace on) = auto
auto_asked auto Script = auto

abbrev pub traces_asked : Bool → Ask → Bool
traces_asked traces (Lists which) = traces
traces_asked traces (Auto on) = traces
traces_asked traces (Trace on) = on
traces_asked traces Script = traces

-- the session after a line
unfoldable pub session_after : Application → Session → (line : List ℕ) → Session
session_after app v line = record {
  state = state_asked app v line (ask_of line);
  auto = auto_asked v.auto (ask_of line);
  traces = traces_asked v.traces (ask_of line);
  number = v.number + 1;
}

-- ---- all lines

-- a line that was typed, and what was printed of it
pub record Exchange : Type 0 where
  pub line : List ℕ
  pub text : List ℕ

-- the session after some lines
unfoldable pub session_by : Application → Session → List Exchange → Session
session_by app v [] = v
session_by app v (x ∷ xs) = session_by app (session_after app v x.line) xs

-- this was printed of each line, in the session after those before it
unfoldable pub PrintsLines : Application → (source : List (List ℕ)) → Session → List Exchange → Type 0
PrintsLines app source v [] = ⊤
PrintsLines app source v (x ∷ xs) = PrintsLine app source v x.line x.text × PrintsLines app source (session_after app v x.line) xs

-- who types is prompted for each line
abbrev pub prompt : (prompted : Bool) → List Passed
prompt true = printed (codes "> ")
prompt _ = []

-- a line is typed, and its text is printed
abbrev pub exchanged : (prompted : Bool) → Exchange → List Passed
exchanged prompted x = prompt prompted ++ TypedLine x.line ∷ printed x.text

-- all lines up to the end of the input, each answered before the next is typed
abbrev pub talked : (prompted : Bool) → List Exchange → List Passed
talked prompted exchanges = flat_map (exchanged prompted) exchanges ++ (prompt prompted ++ Ended ∷ [])

-- what was typed and printed from a monitor on, which came to the state after all lines
pub record Talked {C : Type 0} (passes : C → List Passed → C → Type 0) (prompted : Bool) (app : Application) (s : State) (traces : Bool) (source : List (List ℕ)) (a : C) (d : CoreValue) (b : C) : Type 0 where
  pub exchanges : List Exchange
  pub passed : passes a (talked prompted exchanges) b
  pub prints : PrintsLines app source (session_from s traces) exchanges
  pub application : d.application ≡ app
  pub state : d.state ≡ (session_by app (session_from s traces) exchanges).state

-- ---- one line

-- what became of a line that is one of a script
pub record Said {C : Type 0} (passes : C → List Passed → C → Type 0) (c : CoreValue) (v : Session) (source : List (List ℕ)) (said : Result (List Command) ScriptFault) (a : C) (d : CoreValue) (traces : Bool) (source' : List (List ℕ)) (b : C) : Type 0 where
  pub text : List ℕ
  pub prints : PrintsSaid c.application source v text said
  pub passed : passes a (printed text) b
  pub application : d.application ≡ c.application
  pub state : d.state ≡ state_said c.application v.state said
  pub traces_stays : traces ≡ v.traces
  pub source_stays : source' ≡ source

-- what became of any line
pub record Took {C : Type 0} (passes : C → List Passed → C → Type 0) (c : CoreValue) (v : Session) (source : List (List ℕ)) (line : List ℕ) (a : C) (d : CoreValue) (auto traces : Bool) (source' : List (List ℕ)) (b : C) : Type 0 where
  pub text : List ℕ
  pub prints : PrintsLine c.application source v line text
  pub passed : passes a (printed text) b
  pub application : d.application ≡ c.application
  pub session : session_after c.application v line ≡ record { state = d.state; auto = auto; traces = traces; number = v.number + 1 }
  pub source_stays : source' ≡ source
