use Rattle.std.proofs.Common.{sym, ◌∙◌}
use Rattle.texts.proofs.kdcdef_lex.Quotes.{quote_open}
use Rattle.texts.proofs.kdcdef_lex.NextTokens.{closed_quotes, some_tokens}
use Rattle.texts.proofs.kdcdef_lex.tokens.Tokens.of.Goals as goal

pub invariant_of-result : goal.invariant_of-result
invariant_of-result c = closed_quotes c.args.bytes.now (sym c.has_odd_quotes.ensures ∙ c.if-has_odd_quotes.false)

pub returns-then-has_odd_quotes : goal.returns-then-has_odd_quotes
returns-then-has_odd_quotes c = sym (quote_open c.args.bytes.now (sym c.has_odd_quotes.ensures ∙ c.if-has_odd_quotes.true))

pub returns-else-has_odd_quotes : goal.returns-else-has_odd_quotes
returns-else-has_odd_quotes c = some_tokens _ (closed_quotes c.args.bytes.now (sym c.has_odd_quotes.ensures ∙ c.if-has_odd_quotes.false))
