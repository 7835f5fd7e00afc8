use Rattle.std.proofs.Common.{◌≡◌, drop, [], sym, ap, ◌∙◌, arith}
use Rattle.std.proofs.lemmas.List.{drop_all}
use Rattle.texts.proofs.kdcdef_lex.Quotes.{odd_after, odd_whole}
use Rattle.texts.proofs.kdcdef_lex.tokens.has_odd_quotes.Goals as goal

pub returns : goal.returns
returns c =
    let none : drop c.loop-b.b-index c.args.bytes.now ≡ [] = drop_all c.loop-b.b-index c.args.bytes.now (omega (arith, c.loop-b-test.false)) in
    sym (ap (odd_after c.loop-b.is_open) none) ∙ c.loop-b.invariant ∙ odd_whole c.args.bytes.now
