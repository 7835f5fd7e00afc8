use Rattle.service_ends.proofs.step_scheduler.Counts.{none_counted}
use Rattle.service_ends.proofs.step_scheduler.FreePlaces.{all_free_from}
use Rattle.service_ends.proofs.step_scheduler.places.Places.new.Goals as goal

pub invariant_of-result : goal.invariant_of-result
invariant_of-result c = rw (c.in_ok-all_free.ensures, c.in_ok-no_counts.ensures) (none_counted c.args.tasks, all_free_from c.args.tasks)
