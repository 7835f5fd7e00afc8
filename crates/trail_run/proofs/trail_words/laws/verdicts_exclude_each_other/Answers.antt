use Rattle.trail_run.proofs.trail_words.Judging.{judged_once}
use Rattle.trail_run.proofs.trail_words.laws.verdicts_exclude_each_other.Goals as goal

pub returns : goal.returns
returns c = judged_once
