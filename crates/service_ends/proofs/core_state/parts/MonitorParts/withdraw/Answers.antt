use Rattle.std.proofs.Common.{ap, ◌∙◌}
use Rattle.service_ends.specs.Schedule.{released}
use Rattle.service_ends.specs.KeptLaws.{withdrawn_indexed, withdrawn_state}
use Rattle.service_ends.proofs.core_state.parts.MonitorParts.withdraw.Goals as goal

pub returns-clause-indexed : goal.returns-clause-indexed
returns-clause-indexed c = withdrawn_indexed c.args.self.now _ c.args.id.now (c.release.ensures ∙ ap (released c.args.id.now) c.withdraw.ensures.left) c.requires.indexed

pub returns-clause-state : goal.returns-clause-state
returns-clause-state c = withdrawn_state c.args.self.now _ c.args.id.now (c.release.ensures ∙ ap (released c.args.id.now) c.withdraw.ensures.left)
