use Rattle.std.proofs.Common.{◌<◌, length, sym, ◌∙◌, arith, rules}
use Rattle.std.proofs.lemmas.Bool.{eqb-true}
use Rattle.std.proofs.lemmas.List.Sums.{prefix_len-le-length}
use Rattle.std.specs.Prelude.{not}
use Rattle.kd_base.specs.Text.{is_space}
use Rattle.script_read.proofs.Words.{no_words, next_word}
use Rattle.script_read.proofs.word.next_word.Goals as goal

pub split_at-requires : goal.split_at-requires
split_at-requires c = omega (arith, prefix_len-le-length is_space c.args.line.now)

pub returns-then-is_empty-clause-words : goal.returns-then-is_empty-clause-words
returns-then-is_empty-clause-words c =
    no_words _ _ _ c.spaces_len.ensures c.split_at.ensures.back (eqb-true _ _ (sym c.is_empty.ensures ∙ c.if-is_empty.true))

pub split_at-requires-2 : goal.split_at-requires-2
split_at-requires-2 c = omega (arith, prefix_len-le-length (λ b. not (is_space b)) c.split_at.result.1.now)

pub returns-clause-words : goal.returns-clause-words
returns-clause-words c =
    let some : 0 < length c.split_at.result.1.now = search rules in
    (next_word _ _ _ _ _ _ c.spaces_len.ensures c.split_at.ensures.back some c.len_before.ensures c.split_at-2.ensures.front c.split_at-2.ensures.back).words

pub returns-clause-some : goal.returns-clause-some
returns-clause-some c =
    let some : 0 < length c.split_at.result.1.now = search rules in
    (next_word _ _ _ _ _ _ c.spaces_len.ensures c.split_at.ensures.back some c.len_before.ensures c.split_at-2.ensures.front c.split_at-2.ensures.back).some
