use Rattle.std.proofs.Common.{◌≡◌, ◌+◌, ◌-◌, ap, arith, sym, ◌∙◌}
use Rattle.std.specs.Prelude.{slice_get}
use Rattle.service_ends.specs.Schedule.{Schedule, place_by}
use Rattle.service_ends.proofs.step_scheduler.scheduler.Scheduler.free_from.Goals as goal

pub returns-clause-free : goal.returns-clause-free
returns-clause-free c =
    λ i lt.
    let same : c.args.task + i - 1 ≡ c.args.task - 1 + i = omega (arith, c.requires.task) in
    ap (λ n. place_by (slice_get c.args.self.now.places n)) same
    ∙ sym (ap (λ (s : Schedule). place_by (slice_get s.places (c.args.task - 1 + i))) c.self.view_is)
    ∙ ap place_by (c.free_from.ensures.free i lt)
