use Rattle.std.proofs.Common.{sym, ◌∙◌}
use Rattle.kd_base.proofs.sorted_pairs.Splitting.{all_later, not_before}
use Rattle.kd_base.proofs.sorted_pairs.pairs.SortedPairs.from.Goals as goal

-- this one and those behind it are not before the key
pub returns-then-ge : goal.returns-then-ge
returns-then-ge g c =
    let from = not_before g.K.Ord.cmp g.met.K.Ord.total c.args.key.now c.in-Some.first.now c.ge.result _ (g.met.K.Ord.matches_partial_cmp c.in-Some.first.now.0 c.args.key.now) c.ge.ensures c.if-ge.true in
    sym (all_later g.K.Ord.cmp g.met.K.Ord.total c.args.key.now c.loop-first.rest.now c.in-Some.first.now c.in-Some.more.now c.in-Some.ensures.cases.0 from c.loop-first.invariant.1) ∙ c.loop-first.invariant.0
