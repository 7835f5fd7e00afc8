use Rattle.std.specs.Prelude.{refl}
use Rattle.std.proofs.Common.{ap, subst, sym, ◌∙◌}
use Rattle.service_ends.specs.Ending.{turned_to}
use Rattle.service_ends.specs.Standing.{state_of}
use Rattle.monitor_core.specs.CoreValue.{core_value}
use Rattle.monitor_core.specs.Sound.{IsSound}
use Rattle.monitor_core.proofs.Going.{sound_turn, serial_turn, ended_turn, queues_turn, access_turn}
use Rattle.monitor_core.proofs.monitor.Core.turn.Goals as goal

pub invariant_of-result : goal.invariant_of-result
invariant_of-result c =
    sound_turn c.deref_mut.result.now c.args.self (ap core_value c.deref_mut.ensures.value ∙ c.self.view_is) (subst IsSound (sym c.deref_mut.ensures.value) c.self.invariant) c.args.task (turned_to (state_of c.turn.new.parts) c.in_ok-did.did) c.in_ok-did.ensures.exact
    c.turn.new.parts c.replays_hold_along_every_script.ensures.steps c.requires.task c.in_ok-did.ensures.generation c.in_ok-did.ensures.units refl c.in_ok-did.ensures.whole

pub returns-clause-replays : goal.returns-clause-replays
returns-clause-replays c = (invariant_of-result c).replays

pub returns-clause-serial : goal.returns-clause-serial
returns-clause-serial c =
    serial_turn c.deref_mut.result.now c.args.self (ap core_value c.deref_mut.ensures.value ∙ c.self.view_is) (subst IsSound (sym c.deref_mut.ensures.value) c.self.invariant) c.args.task (turned_to (state_of c.turn.new.parts) c.in_ok-did.did) c.in_ok-did.ensures.exact
    c.commits_are_serial.ensures.turns

pub returns-clause-ends : goal.returns-clause-ends
returns-clause-ends c =
    ended_turn c.deref_mut.result.now c.args.self (ap core_value c.deref_mut.ensures.value ∙ c.self.view_is) (subst IsSound (sym c.deref_mut.ensures.value) c.self.invariant) c.args.task (turned_to (state_of c.turn.new.parts) c.in_ok-did.did) c.in_ok-did.ensures.exact
    c.turns_end_serially.ensures c.replays_hold_along_every_script.ensures.records

pub returns-clause-queues : goal.returns-clause-queues
returns-clause-queues c =
    queues_turn c.deref_mut.result.now c.args.self (ap core_value c.deref_mut.ensures.value ∙ c.self.view_is) (subst IsSound (sym c.deref_mut.ensures.value) c.self.invariant) c.args.task (turned_to (state_of c.turn.new.parts) c.in_ok-did.did) c.in_ok-did.ensures.exact
    c.commits_keep_queues.ensures.turns

pub returns-clause-access : goal.returns-clause-access
returns-clause-access c =
    access_turn c.deref_mut.result.now c.args.self (ap core_value c.deref_mut.ensures.value ∙ c.self.view_is) (subst IsSound (sym c.deref_mut.ensures.value) c.self.invariant) c.args.task (turned_to (state_of c.turn.new.parts) c.in_ok-did.did) c.in_ok-did.ensures.exact
    c.steps_keep_access.ensures.turns
