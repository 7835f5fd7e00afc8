use Rattle.kdcfile_update.specs.UpdatingLaws.{taken_tables_suit}
use Rattle.kdcfile_update.proofs.laws.taken_tables_suit.Goals as goal

pub returns : goal.returns
returns c = taken_tables_suit
