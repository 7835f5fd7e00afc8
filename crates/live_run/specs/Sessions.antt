-- A session: what typed lines do, one after another.
use Rattle.std.specs.Prelude.{◌≡◌, ◌⊎◌, ℕ, ◌+◌, Bool, true, ⊤, List, [], ◌∷◌, ◌++◌, Result, Ok, Err}
use Rattle.kd_device.specs.Device.{State as Seen}
use Rattle.kdcs_types.specs.declared.act.Act.{Act}
use Rattle.kdcs_types.specs.declared.act.Act.TheVariants.{Emit}
use Rattle.abstract_monitor.specs.Commands.{acts_of, state_after}
use Rattle.abstract_monitor.specs.declared.command.Command.{Command}
use Rattle.abstract_monitor.specs.State.{Application, State}
use Rattle.abstract_monitor.specs.Trace.{history}
use Rattle.script_read.specs.declared.fault.ScriptFault.{ScriptFault}
use Rattle.script_read.specs.declared.fault.ScriptFault.TheVariants.{BadLine}
use Rattle.typed_lines.specs.declared.typed.Switch.{Switch}
use Rattle.typed_lines.specs.declared.typed.Switch.TheVariants.{Auto, Trace}
use Rattle.typed_lines.specs.declared.typed.Typed.{Typed}
use Rattle.typed_lines.specs.declared.typed.Typed.TheVariants as asks
use Rattle.typed_lines.specs.Commands.{commands_in, refused_line}
use Rattle.typed_lines.specs.Typing.{typed_of}
use Rattle.live_run.specs.Answers.{IsAnswer}

-- between two lines: the monitor's state, whether the tasks work after an input, and how many lines were typed
pub record Session : Type 0 where
  pub state : State
  pub auto : Bool
  pub number : ℕ

-- where a session begins
abbrev pub session_from : State → Session
session_from s = record { state = s; auto = true; number = 0 }

-- ---- one line

-- an accepted line has the acts of its commands, and the state after them; a refused one sends the line of its refusal, and changes nothing
abbrev pub acts_said : Application → Session → Result (List Command) ScriptFault → List Act
acts_said app v (Ok commands) = acts_of (history app v.state commands)
acts_said app v (Err fault) = Emit (refused_line (v.number + 1) fault) ∷ []

abbrev pub state_said : Application → Session → Result (List Command) ScriptFault → State
state_said app v (Ok commands) = state_after v.state (history app v.state commands)
state_said app v (Err fault) = v.state

-- AUTO and MANUAL send nothing, and TRACE and QUIET are refused, since a session prints no turns
abbrev pub acts_set : (number : ℕ) → Switch → List Act
acts_set number (Auto on) = []
acts_set number (Trace on) = Emit (refused_line (number + 1) (BadLine 1)) ∷ []

-- a question sends its answer and changes nothing
abbrev pub acts_typed : Application → Session → (line answer : List ℕ) → Typed → List Act
acts_typed app v line answer (asks.Question question) = Emit answer ∷ []
acts_typed app v line answer (asks.Switch switch) = acts_set v.number switch
acts_typed app v line answer asks.Script = acts_said app v (commands_in app.generation v.auto line)

abbrev pub state_typed : Application → Session → (line : List ℕ) → Typed → State
state_typed app v line (asks.Question question) = v.state
state_typed app v line (asks.Switch switch) = v.state
state_typed app v line asks.Script = state_said app v (commands_in app.generation v.auto line)

-- AUTO and MANUAL change what later lines do
abbrev pub auto_after : Bool → Typed → Bool
auto_after auto (asks.Question question) = auto
auto_after auto (asks.Switch (Auto on)) = on
auto_after auto (asks.Switch (Trace on)) = auto
auto_after auto asks.Script = auto

-- the acts of a line that this answers
unfoldable pub acts_of_line : Application → Session → (line answer : List ℕ) → List Act
acts_of_line app v line answer = acts_typed app v line answer (typed_of line)

-- the session after it
unfoldable pub session_after : Application → Session → (line : List ℕ) → Session
session_after app v line = record { state = state_typed app v line (typed_of line); auto = auto_after v.auto (typed_of line); number = v.number + 1 }

-- ---- all lines

-- a line that was read, what was seen of the keeper when it was read, and what answered it
pub record Exchange : Type 0 where
  pub line : List ℕ
  pub seen : Seen
  pub answer : List ℕ

-- the session after some lines
unfoldable pub session_by : Application → Session → List Exchange → Session
session_by app v [] = v
session_by app v (x ∷ xs) = session_by app (session_after app v x.line) xs

-- all their acts, in order
unfoldable pub session_acts : Application → Session → List Exchange → List Act
session_acts app v [] = []
session_acts app v (x ∷ xs) = acts_of_line app v x.line x.answer ++ session_acts app (session_after app v x.line) xs

-- each line is answered at the state before it
unfoldable pub AreAnswered : Application → Session → List Exchange → Type 0
AreAnswered app v [] = ⊤
AreAnswered app v (x ∷ xs) = IsAnswer v.state x.line x.answer × AreAnswered app (session_after app v x.line) xs

-- ---- their commands

abbrev pub commands_said : Result (List Command) ScriptFault → List Command
commands_said (Ok commands) = commands
commands_said (Err fault) = []

abbrev pub commands_asked : Application → Session → (line : List ℕ) → Typed → List Command
commands_asked app v line (asks.Question question) = []
commands_asked app v line (asks.Switch switch) = []
commands_asked app v line asks.Script = commands_said (commands_in app.generation v.auto line)

-- the commands of a line: those of one that is accepted, and none of a question, a switch or a line that is refused
unfoldable pub commands_of_line : Application → Session → (line : List ℕ) → List Command
commands_of_line app v line = commands_asked app v line (typed_of line)

-- the commands of all lines, in order
unfoldable pub session_commands : Application → Session → List Exchange → List Command
session_commands app v [] = []
session_commands app v (x ∷ xs) = commands_of_line app v x.line ++ session_commands app (session_after app v x.line) xs

-- all these acts are those of commands, in their order, and between them lines: answers and refusals
unfoldable pub AreWoven : (own all : List Act) → Type 0
AreWoven own [] = own ≡ []
AreWoven own (a ∷ all) = ((rest : List Act) × (own ≡ a ∷ rest) × AreWoven rest all) ⊎ ((line : List ℕ) × (a ≡ Emit line) × AreWoven own all)
