use Rattle.laws_of_runs.proofs.laws_of_access.Ruleless.{locks_make_the_rule}
use Rattle.laws_of_runs.proofs.laws_of_access.locks_make_the_rule.Goals as goal

pub returns : goal.returns
returns c = locks_make_the_rule
