use Rattle.std.proofs.Common.{◌∙◌, sym, subst}
use Rattle.std.specs.Prelude.{IsTrue, List}
use Rattle.std.specs.FinMap.{is_sorted}
use Rattle.kd_base.specs.PlacesLaws.{found_entry, none_found, removed_entry, none_to_remove, left_sorted}
use Rattle.kd_base.proofs.sorted_pairs.pairs.SortedPairs.remove.Goals as goal

pub returns-in-Ok-clause-value : goal.returns-in-Ok-clause-value
returns-in-Ok-clause-value g c =
    rw (← c.self.view_is)
    (found_entry g.K.Ord.cmp g.met.K.Ord.total c.args.key.now c.self.inside.pairs.items _ c.in-Ok.at c.remove.result c.self.invariant c.as_slice.ensures.value c.in-Ok.ensures c.remove.ensures.value)

pub returns-in-Ok-clause-left : goal.returns-in-Ok-clause-left
returns-in-Ok-clause-left g c =
    rw (← c.self.view_is)
    (
    c.remove.ensures.items
    ∙ removed_entry g.K.Ord.cmp g.met.K.Ord.total c.args.key.now c.self.inside.pairs.items _ c.in-Ok.at c.self.invariant c.as_slice.ensures.value c.in-Ok.ensures)

pub returns-in-Err-clause-value : goal.returns-in-Err-clause-value
returns-in-Err-clause-value g c =
    rw (← c.self.view_is)
    (none_found g.K.Ord.cmp g.met.K.Ord.total c.args.key.now c.self.inside.pairs.items _ _ c.self.invariant c.as_slice.ensures.value c.in-Err.ensures)

pub returns-in-Err-clause-left : goal.returns-in-Err-clause-left
returns-in-Err-clause-left g c =
    rw (← c.self.view_is)
    (none_to_remove g.K.Ord.cmp g.met.K.Ord.total c.args.key.now c.self.inside.pairs.items _ _ c.self.invariant c.as_slice.ensures.value c.in-Err.ensures)

pub invariant_of-self : goal.invariant_of-self
invariant_of-self g c =
    subst (λ (l : List (g.row.K.Denot × g.row.V.Denot)). IsTrue (is_sorted g.K.Ord.cmp l))
    (sym (c.remove.ensures.items ∙ removed_entry g.K.Ord.cmp g.met.K.Ord.total c.args.key.now c.self.inside.pairs.items _ c.in-Ok.at c.self.invariant c.as_slice.ensures.value c.in-Ok.ensures))
    (left_sorted g.K.Ord.cmp c.args.key.now c.self.inside.pairs.items c.self.invariant)
