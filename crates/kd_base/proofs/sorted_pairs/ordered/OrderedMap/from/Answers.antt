use Rattle.std.proofs.Common.{List, ap, sym, ◌∙◌}
use Rattle.std.specs.Prelude.{◌++◌}
use Rattle.kd_base.specs.Places.{from_key}
use Rattle.kd_base.proofs.sorted_pairs.Splitting.{from_both}
use Rattle.kd_base.proofs.sorted_pairs.ordered.OrderedMap.from.Goals as goal

pub returns-clause-pairs : goal.returns-clause-pairs
returns-clause-pairs g c =
    let few = c.self.inside.few in
    let many = c.self.inside.many.entries in
    rw (← c.self.view_is)
    (
    c.new.ensures
    ∙ ap (λ (l : List (g.row.K.Denot × g.row.V.Denot)). l ++ c.from_in.result) c.from.ensures
    ∙ ap (λ (l : List (g.row.K.Denot × g.row.V.Denot)). from_key g.K.Ord.cmp c.args.key.now few ++ l) c.from_in.ensures
    ∙ sym (from_both g.K.Ord.cmp c.args.key.now few many)
    )
