use Rattle.std.proofs.Common.{◌≡◌, ◌-◌, List, None, Option, Some, ap, set, sym, ◌∙◌}
use Rattle.std.specs.Prelude.{slice_get}
use Rattle.std.specs.Map.{values_of}
use Rattle.std.proofs.lemmas.List.{set-set}
use Rattle.abstract_monitor.specs.Picks.{Classed}
use Rattle.service_ends.specs.Schedule.{Schedule, place_by, with_class}
use Rattle.service_ends.proofs.step_scheduler.scheduler.Scheduler.stay.Goals as goal

-- the task is freed first, and holds the service again
pub returns-in-Some : goal.returns-in-Some
returns-in-Some c =
    let places = c.self.inside.places in
    let at = c.args.task - 1 in
    let class = c.args.class in
    let entry = c.in-Some.entry in
    let schedule : List (Option Classed) → Schedule = λ l. record { ready = values_of c.self.inside.ready; places = l } in
    let changed : c.fill.new.self ≡ set places at (with_class class (place_by (slice_get places at))) =
    c.fill.ensures
    ∙ ap (λ (l : List (Option Classed)). set l at (Some (entry.0, class))) c.clear.ensures
    ∙ set-set places at None (Some (entry.0, class))
    ∙ sym (ap (λ (o : Option (Option Classed)). set places at (with_class class (place_by o))) c.in-Some.ensures)
    in
    rw (← c.self.view_is) (ap schedule changed)
