use Rattle.abstract_monitor.specs.DeadlocksLaws.{deadlocks_found}
use Rattle.laws_of_states.proofs.laws_of_steps.deadlocks_are_found.Goals as goal

pub returns : goal.returns
returns c = deadlocks_found
