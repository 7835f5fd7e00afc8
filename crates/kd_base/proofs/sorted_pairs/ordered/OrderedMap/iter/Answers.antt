use Rattle.std.proofs.Common.{List, ap, ◌∙◌}
use Rattle.std.specs.Prelude.{◌++◌}
use Rattle.kd_base.proofs.sorted_pairs.Splitting.{kept_all}
use Rattle.kd_base.proofs.sorted_pairs.ordered.OrderedMap.iter.Goals as goal

pub returns-clause-pairs : goal.returns-clause-pairs
returns-clause-pairs g c =
    rw (← c.self.view_is)
    (
    c.new.ensures
    ∙ ap (λ (l : List (g.row.K.Denot × g.row.V.Denot)). l ++ c.range.result) c.as_slice.ensures.pairs
    ∙ ap (λ (l : List (g.row.K.Denot × g.row.V.Denot)). c.self.inside.few ++ l) (c.range.ensures.between tt ∙ kept_all c.self.inside.many.entries)
    )
