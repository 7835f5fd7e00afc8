use Rattle.std.proofs.Common.{◌<◌, length, sym, ◌∙◌, arith, rules}
use Rattle.std.proofs.lemmas.Bool.{eqb-true}
use Rattle.std.proofs.lemmas.List.Sums.{prefix_len-le-length}
use Rattle.std.specs.Prelude.{not}
use Rattle.kd_base.specs.Text.{is_space}
use Rattle.audit_trail.proofs.Words.{last_word, word_and_rest}
use Rattle.audit_trail.proofs.word.first_word.Goals as goal

pub split_at-requires : goal.split_at-requires
split_at-requires c = omega (arith, prefix_len-le-length (λ b. not (is_space b)) c.args.line.now)

pub returns-then-is_empty : goal.returns-then-is_empty
returns-then-is_empty c = last_word _ _ _ _ c.len_before-n.ensures c.split_at.ensures.front c.split_at.ensures.back (eqb-true _ _ (sym c.is_empty.ensures ∙ c.if-is_empty.true))

pub returns : goal.returns
returns c =
    let some : 0 < length c.split_at.result.1.now = search rules in
    word_and_rest _ _ _ _ c.len_before-n.ensures c.split_at.ensures.front c.split_at.ensures.back some
