use Rattle.std.proofs.Common.{◌∙◌, sym, subst}
use Rattle.std.specs.Prelude.{IsTrue, List}
use Rattle.std.specs.FinMap.{is_sorted}
use Rattle.kd_base.specs.PlacesLaws.{put_entry, inserted_entry}
use Rattle.kd_base.proofs.sorted_pairs.pairs.SortedPairs.put.Goals as goal
use Rattle.kd_base.specs.OrderLaws.{sorted_put}

pub returns-in-Ok-clause-ok : goal.returns-in-Ok-clause-ok
returns-in-Ok-clause-ok g c =
    rw (← c.self.view_is)
    (put_entry g.K.Ord.cmp g.met.K.Ord.total c.args.key c.args.value c.self.inside.pairs.items _ c.in-Ok.at c.index_mut.result.now c.self.invariant c.as_slice.ensures.value c.in-Ok.ensures c.index_mut.ensures.value)

pub invariant_of-self : goal.invariant_of-self
invariant_of-self g c =
    subst (λ (l : List (g.row.K.Denot × g.row.V.Denot)). IsTrue (is_sorted g.K.Ord.cmp l))
    (sym (put_entry g.K.Ord.cmp g.met.K.Ord.total c.args.key c.args.value c.self.inside.pairs.items _ c.in-Ok.at c.index_mut.result.now c.self.invariant c.as_slice.ensures.value c.in-Ok.ensures c.index_mut.ensures.value))
    (sorted_put g.met.K.Ord.total c.args.key c.args.value c.self.inside.pairs.items c.self.invariant)

pub invariant_of-self-in-Err : goal.invariant_of-self-in-Err
invariant_of-self-in-Err g c =
    subst (λ (l : List (g.row.K.Denot × g.row.V.Denot)). IsTrue (is_sorted g.K.Ord.cmp l))
    (sym (c.in_ok-insert-in-Err.ensures.items ∙ inserted_entry g.K.Ord.cmp g.met.K.Ord.total c.args.key c.args.value c.self.inside.pairs.items _ c.in-Err.at c.self.invariant c.as_slice.ensures.value c.in-Err.ensures))
    (sorted_put g.met.K.Ord.total c.args.key c.args.value c.self.inside.pairs.items c.self.invariant)

pub returns-in_ok-insert-in-Err-clause-ok : goal.returns-in_ok-insert-in-Err-clause-ok
returns-in_ok-insert-in-Err-clause-ok g c =
    rw (← c.self.view_is)
    (c.in_ok-insert-in-Err.ensures.items ∙ inserted_entry g.K.Ord.cmp g.met.K.Ord.total c.args.key c.args.value c.self.inside.pairs.items _ c.in-Err.at c.self.invariant c.as_slice.ensures.value c.in-Err.ensures)
