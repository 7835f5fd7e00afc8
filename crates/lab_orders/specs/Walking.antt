-- What the code of a search comes to at one command.
use Rattle.std.specs.Prelude.{◌≡◌, ◌++◌, ◌+◌, ◌&&◌, ◌||◌, ℕ, true, false, []}
use Rattle.kdcs_types.specs.Tables.{TableRows}
use Rattle.abstract_monitor.specs.declared.command.Command.{Command}
use Rattle.abstract_monitor.specs.declared.command.Command.TheVariants.{Input, Tick, Run, Turn, Drop, Print, PrintLast, Restart}
use Rattle.abstract_monitor.specs.Commands.{ScriptStep, command_of, started}
use Rattle.abstract_monitor.specs.State.{Application}
use Rattle.abstract_monitor.specs.Trace.{bytes_of}
use Rattle.laws_of_states.specs.Keeping.{HasFacts}
use Rattle.laws_of_runs.specs.Replays.{AllReplay}
use Rattle.monitor_core.specs.CoreSteps.{durable_of}
use Rattle.monitor_core.specs.CoreValue.{CoreValue}
use Rattle.lab_walks.specs.declared.signs.Signs.{Signs}
use Rattle.lab_walks.specs.Serial.{is_one_at_a_time}
use Rattle.lab_walks.specs.Signs.{is_dump, is_k04, is_k05, is_refused_in}
use Rattle.lab_orders.specs.declared.path.Path.{Path}

-- how many turns and commands a command comes to at most: a RUN to its turns, and to one of each task at its end
abbrev pub tries_of : Command → ℕ
tries_of (Run turns) = turns + 65535
tries_of (Input pterm text) = 1
tries_of (Tick ticks) = 1
tries_of (Turn task) = 1
tries_of (Drop pterm) = 1
tries_of (Print pterm) = 1
tries_of (PrintLast pterm) = 1
tries_of Restart = 1

-- a command that is no RUN
abbrev pub IsNoRun : Command → Type 0
IsNoRun (Run turns) = ⊥
IsNoRun (Input pterm text) = Unit {0}
IsNoRun (Tick ticks) = Unit {0}
IsNoRun (Turn task) = Unit {0}
IsNoRun (Drop pterm) = Unit {0}
IsNoRun (Print pterm) = Unit {0}
IsNoRun (PrintLast pterm) = Unit {0}
IsNoRun Restart = Unit {0}

-- a core between two steps, with the durable tables beside it
pub record IsBeside (c : CoreValue) (p : Path) : Type 0 where
  pub facts : HasFacts c.application c.state
  pub replays : AllReplay c.application c.state
  pub durable : p.durable ≡ durable_of c

-- ---- what was seen

-- no request was refused, and nothing ended with a dump
pub record HasNoSigns (signs : Signs) : Type 0 where
  pub k04 : signs.k04 ≡ false
  pub k05 : signs.k05 ≡ false
  pub dump : signs.dump ≡ false

-- and with one step more
pub record IsSeen (before : Signs) (step : ScriptStep) (after : Signs) : Type 0 where
  pub k04 : after.k04 ≡ (before.k04 || is_refused_in is_k04 step.after)
  pub k05 : after.k05 ≡ (before.k05 || is_refused_in is_k05 step.after)
  pub dump : after.dump ≡ (before.dump || is_dump step.by)

-- ---- what was done

-- a core that started from tables, beside a walk of which nothing is done
pub record Begun (app : Application) (t : TableRows) (c : CoreValue) (p : Path) : Type 0 where
  pub application : c.application ≡ app
  pub state : c.state ≡ started app t
  pub beside : IsBeside c p
  pub turns : p.turns ≡ []
  pub sent : p.sent ≡ []
  pub signs : HasNoSigns p.signs
  pub serial : p.serial ≡ true
  pub steps : c.steps ≡ 0

-- a command was done
pub record DidCommand (c : CoreValue) (before : Path) (command : Command) (d : CoreValue) (after : Path) : Type 0 where
  pub application : d.application ≡ c.application
  pub beside : IsBeside d after
  pub state : d.state ≡ (command_of c.application c.state command).after
  pub turns : after.turns ≡ before.turns
  pub sent : after.sent ≡ before.sent ++ bytes_of (command_of c.application c.state command).acts
  pub signs : IsSeen before.signs (command_of c.application c.state command) after.signs
  pub serial : after.serial ≡ (before.serial && is_one_at_a_time d.state)
