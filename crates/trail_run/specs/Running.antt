-- A core with its durable tables beside it, between two steps of a script.
use Rattle.std.specs.Prelude.{◌≡◌, List, ◌++◌, Option, Some, None}
use Rattle.abstract_monitor.specs.declared.command.Command.{Command}
use Rattle.abstract_monitor.specs.declared.command.Command.TheVariants.{Input, Tick, Run, Turn, Drop, Print, PrintLast, Restart}
use Rattle.abstract_monitor.specs.Commands.{ScriptStep, lterm_at, state_after}
use Rattle.abstract_monitor.specs.State.{Application}
use Rattle.laws_of_states.specs.Applications.{IsApplication}
use Rattle.monitor_core.specs.CoreSteps.{durable_of}
use Rattle.monitor_core.specs.CoreValue.{CoreValue}
use Rattle.audit_trail.specs.declared.entry.By.{By}
use Rattle.audit_trail.specs.declared.entry.By.TheVariants as by
use Rattle.trail_run.specs.declared.kept.Kept.{Kept}
use Rattle.trail_run.specs.Entries.{entries_in}

-- what makes the commit of a command that is no RUN, TURN or RESTART, if it makes one; an input that commits is KDCOUT
abbrev pub by_for : Application → Command → Option By
by_for app (Input pterm text) = Some (by.Shown (lterm_at app pterm))
by_for app (Tick ticks) = Some (by.Tick ticks)
by_for app (Print pterm) = Some (by.Shown (lterm_at app pterm))
by_for app (Run turns) = None
by_for app (Turn task) = None
by_for app (Drop pterm) = None
by_for app (PrintLast pterm) = None
by_for app Restart = None

-- a core with its durable tables beside it
pub record IsReady (kept : Kept) (c : CoreValue) : Type 0 where
  pub application : IsApplication c.application
  pub durable : kept.durable ≡ durable_of c

-- the core came to the state after some steps, with its durable tables beside it, and their entries are behind those before
pub record DidSteps (c : CoreValue) (before : Kept) (steps : List ScriptStep) (d : CoreValue) (after : Kept) : Type 0 where
  pub application : d.application ≡ c.application
  pub state : d.state ≡ state_after c.state steps
  pub durable : after.durable ≡ durable_of d
  pub entries : after.entries ≡ before.entries ++ entries_in steps
