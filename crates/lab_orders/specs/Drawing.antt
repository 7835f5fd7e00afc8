-- What the code comes to where turns are drawn.
use Rattle.std.specs.Prelude.{◌≡◌, ◌-◌, ◌≤◌, ℕ, Bool, false, List, ◌∷◌, ◌++◌, get_or, length}
use Rattle.abstract_monitor.specs.declared.command.Command.{Command}
use Rattle.abstract_monitor.specs.State.{Application, State}
use Rattle.monitor_core.specs.CoreValue.{CoreValue}
use Rattle.lab_orders.specs.declared.path.Path.{Path}
use Rattle.lab_orders.specs.Walking.{IsBeside}
use Rattle.lab_walks.specs.Walks.{CanBe, Spot, stand, stand_run}

-- the task does not rest
pub record IsAwake (resting : List Bool) (task : ℕ) : Type 0 where
  pub least : 1 ≤ task
  pub most : task ≤ length resting
  pub awake : (d : Bool) → get_or resting (task - 1) d ≡ false

-- a script from a state
pub record Script : Type 0 where
  pub app : Application
  pub commands : List Command
  pub start : State

-- each turn that was taken can be where it is, and they lead on
pub record Came (q : Script) (Stand : List ℕ → Spot) (taken : List ℕ) : Type 0 where
  pub can : (before : List ℕ) (t : ℕ) (behind : List ℕ) → taken ≡ before ++ t ∷ behind → CanBe q.app (stand q.app q.commands q.start before) t
  pub spot : (o : List ℕ) → stand q.app q.commands q.start (taken ++ o) ≡ Stand o

-- between two commands, and in a RUN with so many turns left
abbrev pub CameToCommands : Script → Application → State → List Command → (taken : List ℕ) → Type 0
CameToCommands q app s cs taken = Came q (stand app cs s) taken

abbrev pub CameIntoRun : Script → Application → State → (turns room : ℕ) → List Command → (taken : List ℕ) → Type 0
CameIntoRun q app s turns room cs taken = Came q (stand_run app turns room (stand app cs) s) taken

-- some commands were done
pub record Drew (c : CoreValue) (before : Path) (commands : List Command) (d : CoreValue) (after : Path) : Type 0 where
  pub application : d.application ≡ c.application
  pub beside : IsBeside d after
  pub came : (q : Script) (cs : List Command) → q.app ≡ c.application → CameToCommands q c.application c.state (commands ++ cs) before.turns → CameToCommands q d.application d.state cs after.turns
