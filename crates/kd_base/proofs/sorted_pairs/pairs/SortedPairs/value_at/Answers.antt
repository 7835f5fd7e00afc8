use Rattle.std.proofs.Common.{List, sym, subst, refl}
use Rattle.std.specs.Prelude.{IsTrue}
use Rattle.std.specs.FinMap.{is_sorted}
use Rattle.kd_base.specs.PlacesLaws.{put_entry, found_entry}
use Rattle.kd_base.specs.Places.{IsPlace}
use Rattle.std.specs.Prelude.{Ok}
use Rattle.kd_base.proofs.sorted_pairs.pairs.SortedPairs.value_at.Goals as goal
use Rattle.kd_base.specs.OrderLaws.{sorted_put}

pub invariant_of-self-lent : goal.invariant_of-self-lent
invariant_of-self-lent g c w =
    let place : IsPlace g.K.Ord.cmp c.args.key.now c.self.inside.pairs.items (Ok c.args.at) = rw (← c.self.view_is) at c.requires in
    subst (λ (l : List (g.row.K.Denot × g.row.V.Denot)). IsTrue (is_sorted g.K.Ord.cmp l))
    (sym (put_entry g.K.Ord.cmp g.met.K.Ord.total c.args.key.now w c.self.inside.pairs.items _ c.args.at c.index_mut.result.now c.self.invariant refl place c.index_mut.ensures.value))
    (sorted_put g.met.K.Ord.total c.args.key.now w c.self.inside.pairs.items c.self.invariant)

pub returns : goal.returns
returns g c =
    let place : IsPlace g.K.Ord.cmp c.args.key.now c.self.inside.pairs.items (Ok c.args.at) = rw (← c.self.view_is) at c.requires in (
      (
        refl,
        λ w. rw (← c.self.view_is) (put_entry g.K.Ord.cmp g.met.K.Ord.total c.args.key.now w c.self.inside.pairs.items _ c.args.at c.index_mut.result.now c.self.invariant refl place c.index_mut.ensures.value),
      ),
      record { writes_back = tt; value = rw (← c.self.view_is) (found_entry g.K.Ord.cmp g.met.K.Ord.total c.args.key.now c.self.inside.pairs.items _ c.args.at c.index_mut.result.now c.self.invariant refl place c.index_mut.ensures.value) },
    )
