use Rattle.std.specs.Prelude.{refl}
use Rattle.std.proofs.Common.{ap, subst, sym, ◌∙◌}
use Rattle.service_ends.specs.Standing.{state_of}
use Rattle.monitor_core.specs.CoreValue.{core_value}
use Rattle.monitor_core.specs.Sound.{IsSound}
use Rattle.monitor_core.proofs.Going.{sound_command, serial_command, queues_command, access_command}
use Rattle.monitor_core.proofs.monitor.Core.apply.Goals as goal

pub invariant_of-result : goal.invariant_of-result
invariant_of-result c =
    sound_command c.deref_mut.result.now c.args.self (ap core_value c.deref_mut.ensures.value ∙ c.self.view_is) (subst IsSound (sym c.deref_mut.ensures.value) c.self.invariant) c.args.command.now (state_of c.apply.new.parts) c.in_ok-acts.acts c.in_ok-acts.ensures.exact
    c.apply.new.parts c.replays_hold_along_every_script.ensures.steps c.requires.names c.in_ok-acts.ensures.generation c.in_ok-acts.ensures.units refl c.in_ok-acts.ensures.whole

pub returns-clause-replays : goal.returns-clause-replays
returns-clause-replays c = (invariant_of-result c).replays

pub returns-clause-serial : goal.returns-clause-serial
returns-clause-serial c =
    serial_command c.deref_mut.result.now c.args.self (ap core_value c.deref_mut.ensures.value ∙ c.self.view_is) (subst IsSound (sym c.deref_mut.ensures.value) c.self.invariant) c.args.command.now (state_of c.apply.new.parts) c.in_ok-acts.acts c.in_ok-acts.ensures.exact
    c.commits_are_serial.ensures.commands

pub returns-clause-queues : goal.returns-clause-queues
returns-clause-queues c =
    queues_command c.deref_mut.result.now c.args.self (ap core_value c.deref_mut.ensures.value ∙ c.self.view_is) (subst IsSound (sym c.deref_mut.ensures.value) c.self.invariant) c.args.command.now (state_of c.apply.new.parts) c.in_ok-acts.acts c.in_ok-acts.ensures.exact
    c.commits_keep_queues.ensures.commands

pub returns-clause-access : goal.returns-clause-access
returns-clause-access c =
    access_command c.deref_mut.result.now c.args.self (ap core_value c.deref_mut.ensures.value ∙ c.self.view_is) (subst IsSound (sym c.deref_mut.ensures.value) c.self.invariant) c.args.command.now (state_of c.apply.new.parts) c.in_ok-acts.acts c.in_ok-acts.ensures.exact
    c.steps_keep_access.ensures.commands
