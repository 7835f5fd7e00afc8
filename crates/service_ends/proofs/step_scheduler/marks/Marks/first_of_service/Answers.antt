use Rattle.service_ends.proofs.step_scheduler.Least.{same_least}
use Rattle.service_ends.proofs.step_scheduler.marks.Marks.first_of_service.Goals as goal

pub returns : goal.returns
returns c arrivals h = same_least _ _ (h.by_service c.args.id.now) _ c.first_of.ensures
