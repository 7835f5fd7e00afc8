-- A restart from the durable tables.
use Rattle.std.proofs.Common.{◌≡◌, refl, sym, ◌∙◌}
use Rattle.std.specs.Prelude.{None}
use Rattle.std.proofs.lemmas.List.{append-nil}
use Rattle.abstract_monitor.specs.declared.command.Command.TheVariants.{Restart}
use Rattle.abstract_monitor.specs.Commands.{command_of, started}
use Rattle.monitor_core.specs.CoreSteps.{command_steps, durable_of}
use Rattle.monitor_core.specs.CoreValue.{CoreValue}
use Rattle.trail_run.specs.declared.kept.Kept.{Kept}
use Rattle.trail_run.specs.Entries.{entry_in}
use Rattle.trail_run.specs.Running.{DidSteps}
use Rattle.trail_run.specs.RunningLaws.{did_step}

started_again : (c : CoreValue) → started c.application (durable_of c) ≡ (command_of c.application c.state Restart).after
unfolding command_of
started_again c = refl

no_entry : (c : CoreValue) → None ≡ entry_in (command_of c.application c.state Restart)
unfolding command_of
no_entry c = refl

pub did_restart : (c d : CoreValue) (kept : Kept) → d.application ≡ c.application → d.state ≡ started c.application (durable_of c) → kept.durable ≡ durable_of d → DidSteps c kept (command_steps c Restart) d kept
did_restart c d kept app state beside =
    did_step c kept (command_of c.application c.state Restart) d kept app (state ∙ started_again c) beside None (no_entry c) (sym (append-nil kept.entries))
