-- What a sink takes of the steps of a script.
use Rattle.std.specs.Prelude.{◌≡◌, ◌+◌, ◌-◌, ◌≤◌, ◌==◌, ℕ, Bool, true, false, List, [], ◌∷◌, ◌++◌, take}
use Rattle.abstract_monitor.specs.declared.command.Command.{Command}
use Rattle.abstract_monitor.specs.declared.command.Command.TheVariants.{Restart}
use Rattle.abstract_monitor.specs.Commands.{ScriptStep, next_task, rotated, state_after, steps_of}
use Rattle.abstract_monitor.specs.Trace.{history}
use Rattle.abstract_monitor.specs.Turns.{turn_of}
use Rattle.monitor_core.specs.CoreValue.{CoreValue}

-- how steps go on from one another: what a sink took and then took, and what it took before it failed; which steps they were matters only where what it is told is known
pub record SinkGoesOn {S E : Type 0} (ready : S → CoreValue → Type 0) (known : S → Type 0) (took : S → CoreValue → List ScriptStep → S → CoreValue → Type 0) (failed : S → CoreValue → List ScriptStep → E → S → Type 0) : Type 0 where
  pub none : (s : S) (c : CoreValue) → ready s c → took s c [] s c
  pub application : (s t : S) (c d : CoreValue) (xs : List ScriptStep) → took s c xs t d → d.application ≡ c.application
  pub state : (s t : S) (c d : CoreValue) (xs : List ScriptStep) → took s c xs t d → known s → d.state ≡ state_after c.state xs
  pub again : (s t : S) (c d : CoreValue) (xs : List ScriptStep) → ready s c → took s c xs t d → ready t d
  pub more : (s t u : S) (c d e : CoreValue) (xs ys all : List ScriptStep) → took s c xs t d → took t d ys u e → (known s → all ≡ xs ++ ys) → took s c all u e
  pub fails : (s t u : S) (c d : CoreValue) (xs ys rest all : List ScriptStep) (e : E) → took s c xs t d → failed t d ys e u → (known s → all ≡ xs ++ (ys ++ rest)) → failed s c all e u

-- what a turn of a task came to, and whether it moved something
pub record DidTurn (c : CoreValue) (task : ℕ) (d : CoreValue) (moved : Bool) : Type 0 where
  pub moved_is : moved ≡ (turn_of c.application c.state task).moved
  pub state : d.state ≡ (turn_of c.application c.state task).after
  pub steps : d.steps ≡ c.steps + 1

-- how many turns in a row moved nothing, after so many more, of which the last one moved something or none did
abbrev pub row_after : (moved : Bool) → (unmoved turns : ℕ) → ℕ
row_after true unmoved turns = 0
row_after false unmoved turns = unmoved + turns

-- these are the steps of so many turns in rotation, from this task on
pub record DidTurns (c : CoreValue) (task : ℕ) (d : CoreValue) (turns : ℕ) (moved : Bool) (steps : List ScriptStep) : Type 0 where
  pub some : 1 ≤ turns
  pub counted : d.steps ≡ c.steps + turns
  pub rotation : (unmoved : ℕ) → unmoved + turns ≤ c.application.generation.limits.tasks
      → (ended : Bool) → (row_after moved unmoved turns == c.application.generation.limits.tasks) ≡ ended
      → (left : ℕ) → rotated c.application (left + turns) false c.state task unmoved ≡ steps ++ rotated c.application left ended d.state (next_task c.application (task + (turns - 1))) (row_after moved unmoved turns)

-- a script stopped within the command that comes after the first n: these were taken
pub record Stopped {S E : Type 0} (took : S → CoreValue → List ScriptStep → S → CoreValue → Type 0) (failed : S → CoreValue → List ScriptStep → E → S → Type 0) (unopened : S → CoreValue → E → S → Type 0) (s : S) (c : CoreValue) (script : List Command) (n : ℕ) (e : E) (u : S) : Type 0 where
  pub command : Command
  pub rest : List Command
  pub split : script ≡ take n script ++ command ∷ rest
  pub t : S
  pub d : CoreValue
  pub done : took s c (history c.application c.state (take n script)) t d
  pub here : failed t d (steps_of d.application d.state command) e u
  pub restart : command ≡ Restart → unopened t d e u
