use Rattle.std.proofs.Common.{◌<◌, length, rules, ◌∙◌, ap}
use Rattle.texts.specs.Tokens.{token_at}
use Rattle.texts.specs.Blanks.{from_first}
use Rattle.texts.proofs.kdcdef_lex.NextTokens.{next_token}
use Rattle.texts.proofs.kdcdef_lex.tokens.Tokens.next.Goals as goal

pub invariant_of-result : goal.invariant_of-result
invariant_of-result c =
    let some : 0 < length (from_first c.self.inside.bytes.now) = rw (← c.from_first-bytes.ensures) (search rules) in
    let found = c.in_ok-token.ensures ∙ ap token_at c.from_first-bytes.ensures in
    (next_token c.self.inside.bytes.now c.in_ok-token.token c.in_ok-token.rest.now c.self.invariant some found).0

pub returns : goal.returns
returns c =
    let some : 0 < length (from_first c.self.inside.bytes.now) = rw (← c.from_first-bytes.ensures) (search rules) in
    let found = c.in_ok-token.ensures ∙ ap token_at c.from_first-bytes.ensures in
    rw (← c.self.view_is) (next_token c.self.inside.bytes.now c.in_ok-token.token c.in_ok-token.rest.now c.self.invariant some found).1
