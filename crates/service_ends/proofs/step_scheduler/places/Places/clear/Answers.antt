use Rattle.std.proofs.Common.{◌≡◌, None, Some, ap, arith, subst, sym, ◌∙◌}
use mir.Val.{bool_byte}
use Rattle.std.specs.Prelude.{slice_get, slice_index}
use Rattle.std.proofs.lemmas.List.{get_or_read_under}
use Rattle.service_ends.specs.Counted.{AreFreeFrom}
use Rattle.service_ends.proofs.step_scheduler.Counts.{as_number, asynchronous_held, class_held, counts_cleared, set_same}
use Rattle.service_ends.proofs.step_scheduler.FreePlaces.{free_cleared}
use Rattle.service_ends.proofs.step_scheduler.places.Places.clear.Goals as goal
use Rattle.service_ends.proofs.step_scheduler.places.Places.clear.Goals.{After-index_mut-2}

there : (c : After-index_mut-2) → slice_get c.self.inside.places.items c.args.place ≡ Some (Some c.in-Some.entry)
there c = ap (λ l. slice_get l c.args.place) c.self.view_is ∙ c.in-Some.ensures

read : (c : After-index_mut-2) → c.index_mut-2.result.now ≡ slice_index c.self.inside.of_class.items c.in-Some.entry.1
read c = get_or_read_under c.self.inside.of_class.items c.in-Some.entry.1 256 c.index_mut-2.result.now 0 c.index_mut-2.ensures.value (omega arith) (sym c.self.invariant.0.classes)

pub overflow_sub-index_mut : goal.overflow_sub-index_mut
overflow_sub-index_mut c =
    let here = (goal.at.overflow_sub-index_mut c).After-index_mut-2 in
    let fields = c.self.inside in
    let held = class_held fields.places.items fields.of_class.items fields.asynchronous c.args.place c.in-Some.entry c.self.invariant.0 (omega arith) (there here) in
    omega (arith, held, read here)

pub overflow_sub-self : goal.overflow_sub-self
overflow_sub-self c =
    let here = (goal.at.overflow_sub-self c).After-index_mut-2 in
    let fields = c.self.inside in
    let number = c.from.ensures ∙ ap bool_byte c.is_asynchronous.ensures ∙ as_number _ in
    let held = asynchronous_held fields.places.items fields.of_class.items fields.asynchronous c.args.place c.in-Some.entry c.self.invariant.0 (omega arith) (there here) in
    omega (arith, held, number)

pub returns-in_default : goal.returns-in_default
returns-in_default c = set_same c.args.self.now c.args.place None c.in_default.ensures

pub invariant_of-self : goal.invariant_of-self
invariant_of-self c =
    let here = (goal.at.invariant_of-self c).After-index_mut-2 in
    let fields = c.self.inside in
    let number = c.from.ensures ∙ ap bool_byte c.is_asynchronous.ensures ∙ as_number _ in
    rw (read here, number) (counts_cleared fields.places.items fields.of_class.items fields.asynchronous c.args.place c.in-Some.entry c.self.invariant.0 (omega arith) (there here), subst (λ l. AreFreeFrom l c.used_of-self-inside.result) c.deref.ensures.value c.used_of-self-inside.ensures)

pub used_of-self-inside-requires : goal.used_of-self-inside-requires
used_of-self-inside-requires c = subst (λ l. AreFreeFrom l c.self.inside.used) (sym c.deref.ensures.value) (free_cleared c.self.inside.places.items c.self.inside.used c.self.invariant.1 c.args.place)
