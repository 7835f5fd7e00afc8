use Rattle.std.proofs.Common.{rules}
use Rattle.std.specs.Ordering.{is_lt}
use Rattle.std.proofs.lemmas.List.Sorted.{answers_always}
use Rattle.kd_base.proofs.sorted_pairs.pairs.ascend.Goals as goal

-- the closure compares the keys
pub returns : goal.returns
returns g c =
    c.is_sorted_by.ensures.cases (λ (x y : g.row.K.Denot × g.row.V.Denot). is_lt (g.K.Ord.cmp x.0 y.0)) (answers_always _ _ _ (λ f a r h called. search rules))
