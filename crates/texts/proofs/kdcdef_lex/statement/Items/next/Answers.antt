use Rattle.texts.proofs.kdcdef_lex.Following.{item_more}
use Rattle.texts.proofs.kdcdef_lex.statement.Items.next.Goals as goal

pub invariant_of-result : goal.invariant_of-result
invariant_of-result c = (item_more c.in-Some.tokens c.in_ok-item.rest c.in_ok-item.item (rw c.if-more.true at c.in_ok-item.ensures) (rw c.in-Some.is at c.self.invariant)).0

pub returns-then-more : goal.returns-then-more
returns-then-more c = rw (← c.self.view_is, c.in-Some.is) (item_more c.in-Some.tokens c.in_ok-item.rest c.in_ok-item.item (rw c.if-more.true at c.in_ok-item.ensures) (rw c.in-Some.is at c.self.invariant)).1
