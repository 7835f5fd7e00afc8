-- The acts of a turn and of a command can be stored.
use Rattle.std.proofs.Common.{◌≡◌, ℕ, List, subst}
use Rattle.std.specs.Prelude.{All}
use Rattle.application_types.specs.Statements.{IsWithin}
use Rattle.kd_records.specs.Identity.{Identity}
use Rattle.kd_records.specs.declared.content.Content.{Content}
use Rattle.kdcs_types.specs.declared.act.Act.{Act}
use Rattle.abstract_monitor.specs.CommandsOf.{IsCommandOf}
use Rattle.abstract_monitor.specs.Commands.{command_of, turned_step}
use Rattle.abstract_monitor.specs.Turns.{turn_of}
use Rattle.abstract_monitor.specs.declared.command.Command.{Command}
use Rattle.monitor_core.specs.CoreValue.{CoreValue}
use Rattle.device_acts.specs.Named.{IsNamedAct}
use Rattle.device_acts.specs.Storing.{TurnsCanBeStored, CommandsCanBeStored}
use Rattle.device_run.specs.Keeping.{IsRunningWith}
use Rattle.device_run.specs.SteppingLaws.{CanStep}

module _ (fingerprint : List ℕ) (c : CoreValue) (j : Identity) (x : Content) (running : IsRunningWith fingerprint c j x) (acts : List Act) (named : All IsNamedAct acts) where
  pub turn_can : TurnsCanBeStored → (task : ℕ) → IsWithin 1 c.application.generation.limits.tasks task → acts ≡ (turn_of c.application c.state task).acts → CanStep fingerprint c j x (turned_step (turn_of c.application c.state task)) acts
  turn_can law task within same = record {
    running = running;
    same = same;
    storable = law c.application c.state task running.application running.limits within running.facts running.keeps.tables (subst (All IsNamedAct) same named);
  }

  pub command_can : CommandsCanBeStored → (command : Command) → IsCommandOf c.application.generation command → acts ≡ (command_of c.application c.state command).acts → CanStep fingerprint c j x (command_of c.application c.state command) acts
  command_can law command names same = record {
    running = running;
    same = same;
    storable = law c.application c.state command running.application running.limits names running.facts running.keeps.tables (subst (All IsNamedAct) same named);
  }
