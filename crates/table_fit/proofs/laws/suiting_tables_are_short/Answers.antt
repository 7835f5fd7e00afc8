use Rattle.table_fit.specs.ShortLaws.{suiting_tables_are_short}
use Rattle.table_fit.proofs.laws.suiting_tables_are_short.Goals as goal

pub returns : goal.returns
returns c = suiting_tables_are_short
