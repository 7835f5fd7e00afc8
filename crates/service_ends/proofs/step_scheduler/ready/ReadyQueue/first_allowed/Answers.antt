use Rattle.std.proofs.Common.{ap, sym, ◌∙◌}
use Rattle.std.specs.Prelude.{find}
use Rattle.std.specs.Map.{values_of}
use Rattle.abstract_monitor.specs.Picks.{service_is_allowed}
use Rattle.service_ends.proofs.step_scheduler.Arrived.{none_arrived, some_arrived}
use Rattle.service_ends.proofs.step_scheduler.ready.ReadyQueue.first_allowed.Goals as goal

pub returns-in_err-number : goal.returns-in_err-number
returns-in_err-number c =
    let arrivals = c.self.inside.arrivals in
    let test = service_is_allowed c.args.limits.now.generation.now c.args.limits.now.places.now in
    c.from_residual.ensures
    ∙ sym (none_arrived test arrivals c.self.invariant.ascending (c.in_err-number.ensures arrivals c.self.invariant.marks))
    ∙ ap (λ l. find test (values_of l)) c.self.view_is

pub returns : goal.returns
returns c =
    let arrivals = c.self.inside.arrivals in
    let test = service_is_allowed c.args.limits.now.generation.now c.args.limits.now.places.now in
    c.copied.ensures ∙ c.get.ensures.value
    ∙ sym (some_arrived test c.in_ok-number.number arrivals c.self.invariant.ascending (c.in_ok-number.ensures arrivals c.self.invariant.marks))
    ∙ ap (λ l. find test (values_of l)) c.self.view_is
