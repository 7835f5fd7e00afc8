-- What the code comes to where it performs a walk.
use Rattle.std.specs.Prelude.{◌≡◌, ◌≤◌, ◌++◌, ◌&&◌, ◌||◌, ℕ, Bool, true, false, All, List, [], ◌∷◌}
use Rattle.std.specs.List.{list_any}
use Rattle.kdcs_types.specs.Tables.{TableRows}
use Rattle.abstract_monitor.specs.declared.command.Command.{Command}
use Rattle.abstract_monitor.specs.Commands.{ScriptStep, acts_of, started, state_after}
use Rattle.abstract_monitor.specs.State.{Application, State}
use Rattle.abstract_monitor.specs.Trace.{bytes_of}
use Rattle.monitor_core.specs.CoreValue.{CoreValue}
use Rattle.lab_walks.specs.Ahead.{Ahead, ahead, ahead_in}
use Rattle.lab_walks.specs.Orders.{order_steps}
use Rattle.lab_walks.specs.Serial.{is_serial_along}
use Rattle.lab_walks.specs.Signs.{has_work, is_dump_along, is_k04, is_k05, is_refused_along, run_ends}
use Rattle.lab_orders.specs.declared.path.Path.{Path}
use Rattle.lab_orders.specs.declared.performed.Attempt.{Attempt}
use Rattle.lab_orders.specs.declared.performed.Attempt.TheVariants.{Ended, HasWork}
use Rattle.lab_orders.specs.Finding.{IsFound}
use Rattle.lab_orders.specs.Walking.{IsBeside}

-- each is a task, or 0
abbrev pub AreTasks : Application → List ℕ → Type 0
AreTasks app walk = All (λ t. t ≤ app.generation.limits.tasks) walk

-- what was sent and seen over some steps
pub record Tells (before : Path) (steps : List ScriptStep) (after : Path) : Type 0 where
  pub sent : after.sent ≡ before.sent ++ bytes_of (acts_of steps)
  pub k04 : after.signs.k04 ≡ (before.signs.k04 || is_refused_along is_k04 steps)
  pub k05 : after.signs.k05 ≡ (before.signs.k05 || is_refused_along is_k05 steps)
  pub dump : after.signs.dump ≡ (before.signs.dump || is_dump_along steps)
  pub serial : after.serial ≡ (before.serial && is_serial_along steps)

-- where a RUN ends
abbrev pub ahead_at_end : Application → State → List Command → (walk : List ℕ) → Ahead
ahead_at_end app s cs walk = (order_steps app cs s walk, s ∷ run_ends app cs s walk)

-- some of them were done; where this is asked for, no work was left where a RUN ended
pub record Goes (asks : Bool) (c : CoreValue) (before : Path) (all : Ahead) (d : CoreValue) (after : Path) (left : Ahead) : Type 0 where
  pub steps : List ScriptStep
  pub ends : List State
  pub steps_are : all.0 ≡ steps ++ left.0
  pub ends_are : all.1 ≡ ends ++ left.1
  pub state : d.state ≡ state_after c.state steps
  pub told : Tells before steps after
  pub rest : asks ≡ true → list_any (has_work c.application) ends ≡ false

-- the turns of a RUN were done
pub record PerformedRun (c : CoreValue) (before : Path) (turns : ℕ) (walk : List ℕ) (d : CoreValue) (after : Path) (behind : List ℕ) : Type 0 where
  pub application : d.application ≡ c.application
  pub beside : IsBeside d after
  pub tasks : AreTasks c.application behind
  pub goes : (cs : List Command) → Goes true c before (ahead_in c.application c.state turns cs walk) d after (ahead_at_end c.application d.state cs behind)

-- a command was done
pub record PerformedCommand (asks : Bool) (c : CoreValue) (before : Path) (command : Command) (walk : List ℕ) (d : CoreValue) (after : Path) (behind : List ℕ) : Type 0 where
  pub application : d.application ≡ c.application
  pub beside : IsBeside d after
  pub tasks : AreTasks c.application behind
  pub goes : (cs : List Command) → Goes asks c before (ahead c.application c.state (command ∷ cs) walk) d after (ahead c.application d.state cs behind)

-- it is asked for, and work is left where one of these RUNs ends
pub record IsLeft (asks : Bool) (c d : CoreValue) (commands : List Command) (walk : List ℕ) : Type 0 where
  pub application : d.application ≡ c.application
  pub asked : asks ≡ true
  pub work : list_any (has_work c.application) (run_ends c.application commands c.state walk) ≡ true

abbrev pub PerformedOne : (asks : Bool) → CoreValue → Path → Command → (walk : List ℕ) → CoreValue → Path → (behind : List ℕ) → (done : Bool) → Type 0
PerformedOne asks c before command walk d after behind true = PerformedCommand asks c before command walk d after behind
PerformedOne asks c before command walk d after behind false = (cs : List Command) → IsLeft asks c d (command ∷ cs) walk

-- all commands were done
pub record PerformedScript (asks : Bool) (c : CoreValue) (before : Path) (commands : List Command) (walk : List ℕ) (d : CoreValue) (after : Path) : Type 0 where
  pub application : d.application ≡ c.application
  pub beside : IsBeside d after
  pub goes : Goes asks c before (ahead c.application c.state commands walk) d after ([], [])

abbrev pub PerformedAll : (asks : Bool) → CoreValue → Path → List Command → (walk : List ℕ) → CoreValue → Path → (done : Bool) → Type 0
PerformedAll asks c before commands walk d after true = PerformedScript asks c before commands walk d after
PerformedAll asks c before commands walk d after false = IsLeft asks c d commands walk

-- what comes out of the walk; or it is asked for, and a RUN of it ends while there is work
abbrev pub PerformedWalk : Application → TableRows → List Command → (walk : List ℕ) → (asks : Bool) → Attempt → Type 0
PerformedWalk app t cs walk asks (Ended found) = (found.turns ≡ walk) × IsFound app t cs found
PerformedWalk app t cs walk asks (HasWork turns) = (turns ≡ walk) × (asks ≡ true) × (list_any (has_work app) (run_ends app cs (started app t) walk) ≡ true)
