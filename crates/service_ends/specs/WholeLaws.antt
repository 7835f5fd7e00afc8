-- Laws: when the parts of a monitor can go on: the indexes are those of a state that has its facts, under an application.
use Rattle.std.specs.Prelude.{◌≡◌}
use Rattle.std.proofs.Common.{◌∙◌}
use Rattle.service_ends.specs.declared.core_state.parts.MonitorParts.{MonitorParts}
use Rattle.service_ends.specs.Standing.{SameApplication}
use Rattle.service_ends.specs.Whole.{app_of}

-- where generation and units stay the same, so does the application
pub same_app : (p q : MonitorParts) → q.generation ≡ p.generation → q.units ≡ p.units → app_of q ≡ app_of p
same_app p q generation units = λ i. record { generation = generation i; units = (units i).units }

-- it stays the same over two changes
pub same_twice : (p q r : MonitorParts) → SameApplication p q → SameApplication q r → SameApplication p r
same_twice p q r a b = record { generation = b.generation ∙ a.generation; units = b.units ∙ a.units; steps = b.steps ∙ a.steps }
