use Rattle.std.proofs.Common.{◌∙◌}
use Rattle.service_ends.specs.contracts.step_scheduler.kinds.KindOrd.TheImpl.Laws as laws
use Rattle.service_ends.proofs.step_scheduler.marks.is_same.Goals as goal

pub returns : goal.returns
returns c = c.eq.ensures ∙ laws.matches_eq-law c.args.a.now c.args.b.now
