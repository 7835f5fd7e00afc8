use Rattle.std.proofs.Common.{take, ◌&&◌}
use Rattle.abstract_monitor.specs.Picks.{service_is_allowed}
use Rattle.service_ends.specs.Arrivals.{AreMarks, Arrivals, is_of_kinds, passes}
use Rattle.service_ends.specs.Index.{IsLeast}
use Rattle.service_ends.proofs.step_scheduler.marks.Marks.first_allowed.Given as goal

abbrev pub invariant-loop-kind : goal.invariant-loop-kind
invariant-loop-kind l = (arrivals : Arrivals) → AreMarks l.self arrivals
    → IsLeast (passes (λ e. is_of_kinds (take l.kind-index l.self.kinds.items) e && service_is_allowed l.limits.generation.now l.limits.places.now e) arrivals) l.first
