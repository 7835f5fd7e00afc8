use Rattle.texts.proofs.kdcdef_lex.HexPairs.{pairs_on}
use Rattle.texts.proofs.kdcdef_lex.quoted.is_hex.Goals as goal

pub loop-after-preserved : goal.loop-after-preserved
loop-after-preserved c = pairs_on c.loop-after.rest c.in-Some.after c.in-Some.field-0-0 _ c.in-Some.ensures c.loop-after.invariant
