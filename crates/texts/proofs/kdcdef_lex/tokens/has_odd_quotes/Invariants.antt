use Rattle.std.proofs.Common.{◌≡◌, drop, false}
use Rattle.texts.proofs.kdcdef_lex.Quotes.{odd_after}
use Rattle.texts.proofs.kdcdef_lex.tokens.has_odd_quotes.Given as goal

abbrev pub invariant-loop-b : goal.invariant-loop-b
invariant-loop-b l = odd_after l.is_open (drop l.b-index l.bytes) ≡ odd_after false l.bytes
