use Rattle.std.proofs.Common.{◌∙◌}
use Rattle.service_ends.specs.KeptLaws.{found_class, none_found}
use Rattle.service_ends.proofs.core_state.parts.MonitorParts.class_at.Goals as goal

pub returns : goal.returns
returns c = c.class_of.ensures ∙ rw c.deref.ensures (found_class c.args.self.now c.args.id.now c.in-Some.transaction.now c.in-Some.ensures.value)

pub unreachable-requires : goal.unreachable-requires
unreachable-requires c = none_found c.args.self.now c.args.id.now c.in-None.ensures.value c.requires
