use Rattle.kdcfile_update.specs.UpdatingLaws.{update_answers_exclude_each_other}
use Rattle.kdcfile_update.proofs.laws.update_answers_exclude_each_other.Goals as goal

pub returns : goal.returns
returns c = update_answers_exclude_each_other
