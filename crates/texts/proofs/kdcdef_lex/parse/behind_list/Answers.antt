use Rattle.texts.proofs.kdcdef_lex.Following.{behind_more}
use Rattle.texts.proofs.kdcdef_lex.parse.behind_list.Goals as goal

pub loop-more-preserved : goal.loop-more-preserved
loop-more-preserved c = behind_more c.loop-more.rest c.in_ok-more.after c.in_ok-more.field-0-0 c.in_ok-more.more _ c.in_ok-more.ensures c.if-not-more.false c.loop-more.invariant
