use Rattle.kd_base.specs.PlacesLaws.{found_entry, none_found}
use Rattle.kd_base.proofs.sorted_pairs.pairs.SortedPairs.get.Goals as goal

pub returns-in-Ok-clause-value : goal.returns-in-Ok-clause-value
returns-in-Ok-clause-value g c =
    rw (← c.self.view_is)
    (found_entry g.K.Ord.cmp g.met.K.Ord.total c.args.key.now c.self.inside.pairs.items _ c.in-Ok.at c.index.result.now c.self.invariant c.as_slice.ensures.value c.in-Ok.ensures c.index.ensures)

pub returns-in-Err-clause-value : goal.returns-in-Err-clause-value
returns-in-Err-clause-value g c =
    rw (← c.self.view_is)
    (none_found g.K.Ord.cmp g.met.K.Ord.total c.args.key.now c.self.inside.pairs.items _ _ c.self.invariant c.as_slice.ensures.value c.in-Err.ensures)
