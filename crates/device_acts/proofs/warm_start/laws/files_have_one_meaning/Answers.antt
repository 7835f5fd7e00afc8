use Rattle.device_acts.specs.MeaningLaws.{one_meaning_of_tables}
use Rattle.device_acts.proofs.warm_start.laws.files_have_one_meaning.Goals as goal

pub returns : goal.returns
returns c = one_meaning_of_tables
