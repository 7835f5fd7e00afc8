use Rattle.unit_read.proofs.FaultsAt.{text_is}
use Rattle.unit_read.proofs.laws.read_units_are_spelled.Goals as goal

pub returns : goal.returns
returns c = text_is
