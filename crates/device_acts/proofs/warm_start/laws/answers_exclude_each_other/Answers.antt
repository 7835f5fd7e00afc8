use Rattle.device_acts.specs.MeaningLaws.{answers_exclude_each_other}
use Rattle.device_acts.proofs.warm_start.laws.answers_exclude_each_other.Goals as goal

pub returns : goal.returns
returns c = answers_exclude_each_other
