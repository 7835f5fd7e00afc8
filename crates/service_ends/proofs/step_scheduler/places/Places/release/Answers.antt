use Rattle.std.proofs.Common.{◌<◌, None, arith, get_or, length, ◌∙◌}
use Rattle.std.proofs.lemmas.List.{get_or_default}
use Rattle.std.proofs.lemmas.Grind.{common_steps}
use Rattle.std.proofs.lemmas.List.Edits.{map_over_more}
use Rattle.service_ends.specs.Schedule.{left_by}
use Rattle.service_ends.proofs.step_scheduler.places.Places.release.Goals as goal

pub loop-place-preserved : goal.loop-place-preserved
loop-place-preserved c =
    let places = c.loop-place.self in
    let lt : c.loop-place.place < length places = grind (arith, common_steps) in
    c.leave.ensures ∙ map_over_more (left_by c.args.id.now) c.args.self.now places c.loop-place.place (get_or places c.loop-place.place None) (omega arith) c.loop-place.invariant (get_or_default places c.loop-place.place None (get_or places c.loop-place.place None) lt)
