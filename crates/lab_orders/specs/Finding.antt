-- What the code of a search finds.
use Rattle.std.specs.Prelude.{◌≡◌, ◌≤◌, ◌^◌, ℕ, IsTrue, All, List, sum_by}
use Rattle.application_types.specs.Generation.{Generated}
use Rattle.kdcs_types.specs.Tables.{TableRows}
use Rattle.application_types.specs.Fitted.{FittedUnits, IsFit}
use Rattle.abstract_monitor.specs.declared.command.Command.{Command}
use Rattle.abstract_monitor.specs.Commands.{started}
use Rattle.abstract_monitor.specs.State.{Application, State}
use Rattle.laws_of_runs.specs.Applied.{applied}
use Rattle.laws_of_states.specs.Keeping.{HasFacts, IsScriptOf}
use Rattle.laws_of_states.specs.Suits.{Suits}
use Rattle.monitor_core.specs.CoreValue.{CoreValue}
use Rattle.lab_walks.specs.declared.frame.Frame.{Frame}
use Rattle.lab_orders.specs.declared.performed.Found.{Found}
use Rattle.lab_orders.specs.declared.search.Seen.{Seen}
use Rattle.lab_orders.specs.declared.search.Seen.TheVariants as seen
use Rattle.lab_walks.specs.Lists.{AreOnce}
use Rattle.lab_walks.specs.Orders.{IsTurn, is_in}
use Rattle.lab_walks.specs.Outcomes.{Result, result_of, sent_by}
use Rattle.lab_walks.specs.Serial.{is_serial}
use Rattle.lab_walks.specs.Frames.{IsAhead, IsFrame, IsWay, turns_in}
use Rattle.lab_orders.specs.Walking.{tries_of}
use Rattle.lab_walks.specs.Walks.{IsEnd, IsWalk, idle_count, stand}

-- the script can start from these tables, under this application
pub record CanStart (app : Application) (t : TableRows) (commands : List Command) (g : Generated) (units : FittedUnits) : Type 0 where
  pub fit : IsFit g units
  pub application : applied g units ≡ app
  pub suits : Suits app.generation t
  pub names : IsScriptOf app commands
  pub tries : sum_by tries_of commands ≤ 10 ^ 14

-- what the code says of a result
abbrev pub found_result : Found → Result
found_result found = record { lines = found.lines; tables = found.tables; signs = found.signs }

-- a walk with what comes out of it
pub record IsFound (app : Application) (t : TableRows) (commands : List Command) (found : Found) : Type 0 where
  pub walk : IsWalk app commands (started app t) found.turns
  pub sent : found.sent ≡ sent_by app commands (started app t) found.turns
  pub result : found_result found ≡ result_of app commands (started app t) found.turns
  pub serial : found.serial ≡ is_serial app commands (started app t) found.turns

-- each task was tried: those with an effect are listed, and the others are counted
pub record AreTried (app : Application) (s : State) (choices : List ℕ) (idle : ℕ) : Type 0 where
  pub idle_is : idle ≡ idle_count app s
  pub can : All (IsTurn app s) choices
  pub whole : (t : ℕ) → IsTurn app s t → IsTrue (is_in t choices)
  pub once : AreOnce choices

-- the core is as it was
pub record IsSame (c d : CoreValue) : Type 0 where
  pub application : d.application ≡ c.application
  pub state : d.state ≡ c.state
  pub facts : HasFacts d.application d.state

-- the end of the turns, or what can be next
abbrev pub SawIt : Application → List Command → TableRows → List Frame → Seen → Type 0
SawIt app cs t frames (seen.Ended found) = IsEnd (stand app cs (started app t) (turns_in frames)) × (found.turns ≡ turns_in frames) × IsFound app t cs found
SawIt app cs t frames (seen.Open frame) = IsFrame app (stand app cs (started app t) (turns_in frames)) frame × (frame.at ≡ 0)

-- the turns from these on to an end
pub record Descended (app : Application) (t : TableRows) (cs : List Command) (old new : List Frame) (found : Found) : Type 0 where
  pub way : IsWay app cs (started app t) new
  pub end : IsEnd (stand app cs (started app t) (turns_in new))
  pub turns : found.turns ≡ turns_in new
  pub found_is : IsFound app t cs found
  pub kept : (w : List ℕ) → IsWalk app cs (started app t) w → IsAhead old w → IsAhead new w
  -- and no walk is ahead that was not
  pub only : (w : List ℕ) → IsAhead new w → IsAhead old w
