use Rattle.std.proofs.Common.{ap, sym, ◌∙◌}
use Rattle.std.specs.Map.{values_of}
use Rattle.kdcs_types.specs.Keys.{id_eq}
use Rattle.service_ends.proofs.step_scheduler.Arrived.{none_filtered}
use Rattle.service_ends.proofs.step_scheduler.ready.ReadyQueue.withdraw.Goals as goal

pub returns-clause-left : goal.returns-clause-left
returns-clause-left c =
    ap values_of c.loop-test.ensures.none
    ∙ sym (none_filtered (λ e. id_eq c.args.id.now e.0) (values_of c.loop.self) c.loop-test.ensures.result)
    ∙ c.loop.invariant
