use Rattle.std.proofs.Common.{◌≡◌, None, Some, true, ap, sym, ◌∙◌}
use Rattle.std.specs.Prelude.{filter, not}
use Rattle.std.specs.List.{list_any}
use Rattle.std.specs.Map.{values_of}
use Rattle.std.specs.Ordering.{nat_cmp}
use Rattle.std.specs.FinMap.{find}
use Rattle.kd_base.specs.PlacesLaws.{left_sorted}
use Rattle.kdcs_types.specs.Keys.{id_eq}
use Rattle.abstract_monitor.specs.Picks.{place_passes}
use Rattle.service_ends.specs.Arrivals.{Arrivals}
use Rattle.service_ends.proofs.step_scheduler.Arrived.{any_arrived, without_filter, without_length}
use Rattle.service_ends.proofs.step_scheduler.ready.ReadyQueue.take_first.Goals as goal
use Rattle.service_ends.proofs.step_scheduler.ready.ReadyQueue.take_first.Goals.{In-Some-remove}

there : (c : In-Some-remove) → find nat_cmp c.in-Some.number c.self.inside.arrivals ≡ Some c.in-Some-remove.entry
there c = sym c.in-Some-remove.ensures.value

own : (c : In-Some-remove) → id_eq c.args.id.now c.in-Some-remove.entry.0 ≡ true
own c = ap (place_passes (λ e. id_eq c.args.id.now e.0)) (sym (there c)) ∙ (c.in-Some.ensures c.self.inside.arrivals c.self.invariant.marks).0

pub returns-in_default-clause-result : goal.returns-in_default-clause-result
returns-in_default-clause-result c =
    let arrivals = c.self.inside.arrivals in
    any_arrived (λ e. id_eq c.args.id.now e.0) arrivals c.self.invariant.ascending None (c.in_default.ensures arrivals c.self.invariant.marks)
    ∙ ap (λ l. list_any (λ e. id_eq c.args.id.now e.0) (values_of l)) c.self.view_is

pub returns-in-Some-remove-clause-result : goal.returns-in-Some-remove-clause-result
returns-in-Some-remove-clause-result c =
    let arrivals = c.self.inside.arrivals in
    any_arrived (λ e. id_eq c.args.id.now e.0) arrivals c.self.invariant.ascending (Some c.in-Some.number) (c.in-Some.ensures arrivals c.self.invariant.marks)
    ∙ ap (λ l. list_any (λ e. id_eq c.args.id.now e.0) (values_of l)) c.self.view_is

pub returns-in-Some-remove-clause-others : goal.returns-in-Some-remove-clause-others
returns-in-Some-remove-clause-others c =
    let here = (goal.at.returns-in-Some-remove-clause-others c).In-Some-remove in
    let others = λ (l : Arrivals). filter (λ e. not (id_eq c.args.id.now e.0)) (values_of l) in
    ap others c.remove.ensures.left
    ∙ without_filter c.in-Some.number c.in-Some-remove.entry c.self.inside.arrivals c.self.invariant.ascending (there here) (λ e. not (id_eq c.args.id.now e.0)) (ap not (own here))
    ∙ ap others c.self.view_is

pub returns-in-Some-remove-clause-less : goal.returns-in-Some-remove-clause-less
returns-in-Some-remove-clause-less c =
    let here = (goal.at.returns-in-Some-remove-clause-less c).In-Some-remove in
    let less = without_length c.in-Some.number c.in-Some-remove.entry c.self.inside.arrivals c.self.invariant.ascending (there here) in
    rw (c.remove.ensures.left, ← c.self.view_is) less

pub invariant_of-self : goal.invariant_of-self
invariant_of-self c =
    let arrivals = c.self.inside.arrivals in
    record {
      ascending = rw c.remove.ensures.left (left_sorted nat_cmp c.in-Some.number arrivals c.self.invariant.ascending);
      marks = rw c.remove.ensures.left (c.remove-in-Some-remove.ensures arrivals (there (goal.at.invariant_of-self c).In-Some-remove) c.self.invariant.marks);
    }
