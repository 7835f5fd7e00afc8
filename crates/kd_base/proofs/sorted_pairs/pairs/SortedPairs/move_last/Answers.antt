use Rattle.std.proofs.Common.{List, subst}
use Rattle.std.specs.Prelude.{IsTrue}
use Rattle.std.specs.FinMap.{is_sorted}
use Rattle.kd_base.proofs.sorted_pairs.Splitting.{front_sorted, moved}
use Rattle.kd_base.proofs.sorted_pairs.pairs.SortedPairs.move_last.Goals as goal
use Rattle.kd_base.proofs.sorted_pairs.pairs.SortedPairs.move_last.Goals.{in-Ok+in-Some-1, in-Ok+in-None-1, in-Err-1}

pub invariant_of-self-in_default-insert : goal.invariant_of-self-in_default-insert
invariant_of-self-in_default-insert g c =
    front_sorted g.K.Ord.cmp c.pop.new.self.items _ (subst (λ (l : List (g.row.K.Denot × g.row.V.Denot)). IsTrue (is_sorted g.K.Ord.cmp l)) c.in-Some.ensures.items c.self.invariant)

pub invariant_of-self-in_default-insert-2 : goal.invariant_of-self-in_default-insert-2
invariant_of-self-in_default-insert-2 g c =
    front_sorted g.K.Ord.cmp c.pop.new.self.items _ (subst (λ (l : List (g.row.K.Denot × g.row.V.Denot)). IsTrue (is_sorted g.K.Ord.cmp l)) c.in-Some.ensures.items c.self.invariant)

pub returns-clause-same : goal.returns-clause-same
returns-clause-same g c =
    let same = moved g.K.Ord.cmp g.met.K.Ord.total c.pop.new.self.items c.in-Some.pair c.self.inside.pairs.items c.args.behind.now.entries c.insert.new.self.entries c.in-Some.ensures.items (rw (← c.self.view_is) at c.requires) c.in_default-insert.ensures.entries in
    elim c.match-this.branch [
      | in-Ok+in-Some-1 w ↦ rw (w.self-is, ← c.self.view_is) same
      | in-Ok+in-None-1 w ↦ rw (w.self-is, ← c.self.view_is) same
      | in-Err-1 w ↦ rw (w.self-is, ← c.self.view_is) same
    ]
