use Rattle.texts.proofs.kdcdef_lex.HexPairs.{pairs_on, byte_first}
use Rattle.texts.proofs.kdcdef_lex.quoted.QuotedBytes.next.Goals as goal

pub invariant_of-result : goal.invariant_of-result
invariant_of-result c = pairs_on c.self.inside.content c.in_ok-byte.content c.in_ok-byte.byte _ c.in_ok-byte.ensures (rw c.if-self.true at c.self.invariant)

pub returns-then-self : goal.returns-then-self
returns-then-self c =
    rw (← c.self.view_is, c.if-self.true) (byte_first c.self.inside.content c.in_ok-byte.content c.in_ok-byte.byte c.in_ok-byte.ensures (rw c.if-self.true at c.self.invariant))
