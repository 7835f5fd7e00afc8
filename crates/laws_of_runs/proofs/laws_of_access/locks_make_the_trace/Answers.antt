use Rattle.laws_of_runs.proofs.laws_of_access.KeylessRuns.{locks_make_the_trace}
use Rattle.laws_of_runs.proofs.laws_of_access.locks_make_the_trace.Goals as goal

pub returns : goal.returns
returns c = locks_make_the_trace
