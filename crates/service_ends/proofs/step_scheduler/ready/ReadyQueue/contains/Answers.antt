use Rattle.std.proofs.Common.{ap, ◌∙◌}
use Rattle.std.specs.List.{list_any}
use Rattle.std.specs.Map.{values_of}
use Rattle.kdcs_types.specs.Keys.{id_eq}
use Rattle.service_ends.proofs.step_scheduler.Arrived.{any_arrived}
use Rattle.service_ends.proofs.step_scheduler.ready.ReadyQueue.contains.Goals as goal

pub returns : goal.returns
returns c =
    let arrivals = c.self.inside.arrivals in
    c.is_some.ensures
    ∙ any_arrived (λ e. id_eq c.args.id.now e.0) arrivals c.self.invariant.ascending _ (c.first_of_service.ensures arrivals c.self.invariant.marks)
    ∙ ap (λ l. list_any (λ e. id_eq c.args.id.now e.0) (values_of l)) c.self.view_is
