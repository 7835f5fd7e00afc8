use Rattle.std.proofs.Common.{sym, ◌∙◌}
use Rattle.std.specs.Ordering.{nat_cmp}
use Rattle.std.specs.FinMap.{find}
use Rattle.service_ends.proofs.step_scheduler.Allowed.{kind_allowed, kind_refused, none_passes, same_passes}
use Rattle.service_ends.proofs.step_scheduler.Least.{same_least}
use Rattle.service_ends.proofs.step_scheduler.marks.Marks.first_of_kind.Goals as goal

pub returns-then-is_allowed : goal.returns-then-is_allowed
returns-then-is_allowed c arrivals h =
    let kind = c.args.kind.now in
    let alike = kind_allowed c.args.limits.now.generation.now c.args.limits.now.places.now kind (sym c.if-is_allowed.ensures) in
    same_least _ _ (λ n. h.by_kind kind n ∙ same_passes _ _ alike (find nat_cmp n arrivals)) _ c.first_of.ensures

pub returns-else-is_allowed : goal.returns-else-is_allowed
returns-else-is_allowed c arrivals h n =
    none_passes _ (kind_refused c.args.limits.now.generation.now c.args.limits.now.places.now c.args.kind.now (sym c.if-is_allowed.ensures)) (find nat_cmp n arrivals)
