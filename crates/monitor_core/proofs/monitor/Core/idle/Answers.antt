use Rattle.std.proofs.Common.{ap, sym, ◌∙◌, ◌≡◌, ◌+◌}
use Rattle.abstract_monitor.specs.Turns.{unmoved}
use Rattle.service_ends.specs.Standing.{state_of}
use Rattle.monitor_core.specs.CoreValue.{CoreValue}
use Rattle.monitor_core.specs.IdleLaws.{idle_turn}
use Rattle.monitor_core.proofs.monitor.Core.idle.Goals as goal

pub returns-clause-exact : goal.returns-clause-exact
returns-clause-exact c =
    λ i lt.
    idle_turn c.args.self.application c.args.self.state (c.args.task + i) (c.requires.free i lt) c.requires.none
    ∙ sym (ap unmoved (ap state_of c.count.ensures.counted ∙ ap state_of c.deref_mut.ensures.value ∙ ap (λ (v : CoreValue). v.state) c.self.view_is))
