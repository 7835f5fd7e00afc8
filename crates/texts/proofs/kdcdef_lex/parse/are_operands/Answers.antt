use Rattle.std.proofs.Common.{sym}
use Rattle.texts.proofs.kdcdef_lex.Following.{are_more, shorter_operand}
use Rattle.texts.proofs.kdcdef_lex.parse.are_operands.Goals as goal

pub loop-more-smaller : goal.loop-more-smaller
loop-more-smaller c = shorter_operand c.loop-more.rest c.in-Some.after c.in-Some.field-0-0 (sym (rw c.if-not-more.false at c.in-Some.ensures))

pub loop-more-preserved : goal.loop-more-preserved
loop-more-preserved c = are_more c.loop-more.rest c.in-Some.after c.in-Some.field-0-0 c.in-Some.more _ c.in-Some.ensures c.if-not-more.false c.loop-more.invariant
