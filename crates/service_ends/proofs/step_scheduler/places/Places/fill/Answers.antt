use Rattle.std.proofs.Common.{◌≡◌, ◌==◌, Some, None, ap, arith, sym, ◌∙◌}
use mir.Val.{bool_byte}
use Rattle.std.specs.Prelude.{slice_get, slice_index}
use Rattle.std.proofs.lemmas.List.{get_or_read_under}
use Rattle.std.proofs.lemmas.List.Sums.{count_by-le-length}
use Rattle.abstract_monitor.specs.Picks.{place_passes}
use Rattle.service_ends.proofs.step_scheduler.Counts.{as_number, counts_filled}
use Rattle.service_ends.proofs.step_scheduler.FreePlaces.{free_filled}
use Rattle.service_ends.proofs.step_scheduler.places.Places.fill.Goals as goal
use Rattle.service_ends.proofs.step_scheduler.places.Places.fill.Goals.{After-index_mut-2}

read : (c : After-index_mut-2) → c.index_mut-2.result.now ≡ slice_index c.self.inside.of_class.items c.args.entry.now.1
read c = get_or_read_under c.self.inside.of_class.items c.args.entry.now.1 256 c.index_mut-2.result.now 0 c.index_mut-2.ensures.value (omega arith) (sym c.self.invariant.0.classes)

pub overflow_add-index_mut : goal.overflow_add-index_mut
overflow_add-index_mut c =
    let here = (goal.at.overflow_add-index_mut c).After-index_mut-2 in
    let class = c.args.entry.now.1 in
    let few = count_by-le-length (place_passes (λ e. e.1 == class)) c.self.inside.places.items in
    let of_class = c.self.invariant.0.of_class class (omega arith) in
    omega (arith, read here, few, of_class)

pub invariant_of-self : goal.invariant_of-self
invariant_of-self c =
    let here = (goal.at.invariant_of-self c).After-index_mut-2 in
    let fields = c.self.inside in
    let there : slice_get fields.places.items c.args.place ≡ Some None = ap (λ l. slice_get l c.args.place) c.self.view_is ∙ c.requires in
    let number = c.from.ensures ∙ ap bool_byte c.is_asynchronous.ensures ∙ as_number _ in
    rw (read here, number) (counts_filled fields.places.items fields.of_class.items fields.asynchronous c.args.place c.args.entry.now c.self.invariant.0 (omega arith) there, free_filled fields.places.items fields.used c.self.invariant.1 c.args.place _ (Some c.args.entry.now) (omega arith) (omega arith))
