use Rattle.std.proofs.Common.{sym}
use Rattle.unit_read.proofs.Keys.{key_fits}
use Rattle.unit_read.proofs.statement.action_of.Goals as goal

pub behind_keywords-requires : goal.behind_keywords-requires
behind_keywords-requires c = key_fits c.args.words.now c.in-Some.key (sym c.in-Some.ensures)
