use Rattle.std.proofs.Common.{◌≡◌, ◌<◌, ◌&&◌, false, refl, arith, length, subst, take}
use Rattle.std.specs.Ordering.{nat_cmp}
use Rattle.std.specs.FinMap.{find}
use Rattle.std.proofs.lemmas.List.{take_all}
use Rattle.abstract_monitor.specs.Picks.{service_is_allowed}
use Rattle.service_ends.specs.Arrivals.{is_of_kinds, passes}
use Rattle.service_ends.specs.Index.{IsLeast}
use Rattle.service_ends.proofs.step_scheduler.Allowed.{all_kinds, more_kinds, none_passes, read_there}
use Rattle.service_ends.proofs.step_scheduler.Least.{same_least}
use Rattle.service_ends.proofs.step_scheduler.marks.Marks.first_allowed.Goals as goal

pub loop-kind-init : goal.loop-kind-init
loop-kind-init c arrivals h n = none_passes (λ e. false) (λ e. refl) (find nat_cmp n arrivals)

pub loop-kind-preserved : goal.loop-kind-preserved
loop-kind-preserved c arrivals h =
    let limits = c.args.limits.now in
    let kinds = c.args.self.now.kinds.items in
    let both = c.lesser-first.ensures _ _ (c.loop-kind.invariant arrivals h) (c.first_of_kind.ensures arrivals h) in
    let lt : c.loop-kind.kind-index < length kinds = omega (arith, c.deref-kind-items.ensures.len) in
    same_least _ _ (λ n. more_kinds limits.generation.now limits.places.now kinds c.loop-kind.kind-index _ lt (read_there _ kinds c.loop-kind.kind-index _ c.deref-kind-items.ensures.value lt) (find nat_cmp n arrivals)) _ both

pub returns : goal.returns
returns c arrivals h =
    let limits = c.args.limits.now in
    let kinds = c.args.self.now.kinds.items in
    let whole : take c.loop-kind.kind-index kinds ≡ kinds = take_all c.loop-kind.kind-index kinds (omega (arith, c.deref-kind-items.ensures.len)) in
    same_least _ _ (λ n. all_kinds limits.generation.now limits.places.now kinds (find nat_cmp n arrivals) (h.kinds n)) _
    (subst (λ ks. IsLeast (passes (λ e. is_of_kinds ks e && service_is_allowed limits.generation.now limits.places.now e) arrivals) c.loop-kind.first) whole (c.loop-kind.invariant arrivals h))
