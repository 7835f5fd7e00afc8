use Rattle.std.proofs.Common.{◌∙◌, rules}
use Rattle.texts.proofs.kdcdef_lex.HexPairs.{pair_at}
use Rattle.texts.proofs.kdcdef_lex.quoted.hex_pair.Goals as goal

pub returns-in_err-low-2 : goal.returns-in_err-low-2
returns-in_err-low-2 c =
    c.from_residual-in_err-low-2.ensures ∙ rw (pair_at c.args.digits.now _ _ _ _ c.in_ok-high.ensures c.in_ok-low.ensures, ← c.in_ok-high-2.ensures, ← c.in_err-low-2.ensures) (search rules)

pub returns : goal.returns
returns c = rw (pair_at c.args.digits.now _ _ _ _ c.in_ok-high.ensures c.in_ok-low.ensures, ← c.in_ok-high-2.ensures, ← c.in_ok-low-2.ensures) (search rules)
