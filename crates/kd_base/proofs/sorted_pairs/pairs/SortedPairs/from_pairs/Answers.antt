use Rattle.std.proofs.Common.{rules, ◌∙◌, ℕ, ◌<◌, List, subst, ap, sym}
use Rattle.std.specs.Prelude.{IsTrue}
use Rattle.std.specs.FinMap.{is_sorted}
use Rattle.std.specs.List.Sorted.{IsSortedByKey}
use Rattle.std.proofs.lemmas.List.Sorted.{answers_always}
use Rattle.kd_base.specs.Places.{times}
use Rattle.kd_base.specs.TimesLaws.{ascending, twice_at, times_permutation}
use Rattle.kd_base.proofs.sorted_pairs.pairs.SortedPairs.from_pairs.Goals as goal

pub returns-then-not-ascend-clause-twice : goal.returns-then-not-ascend-clause-twice
returns-then-not-ascend-clause-twice g c =
    let sorted = c.sort_unstable_by_key.ensures.sorted (λ (e : g.row.K.Denot × g.row.V.Denot). e.0) (answers_always _ _ _ (λ f a r h called. search rules)) in
    let there = c.if-not-ascend.ensures in
    let twice = twice_at g.K.Ord.cmp g.met.K.Ord.total c.as_slice.result.now there.0 there.1 there.2 (subst (λ (l : List (g.row.K.Denot × g.row.V.Denot)). IsSortedByKey (λ (e : g.row.K.Denot × g.row.V.Denot). e.0) g.K.Ord.cmp l) (sym c.as_slice.ensures.value) sorted) in (
      twice.0,
      subst (λ (n : ℕ). 1 < n)
          (ap (λ (l : List (g.row.K.Denot × g.row.V.Denot)). times g.K.Ord.cmp twice.0 l) c.as_slice.ensures.value ∙ times_permutation g.K.Ord.cmp twice.0 c.args.pairs.items c.sort_unstable_by_key.new.self.items c.sort_unstable_by_key.ensures.permutation)
          twice.1,
    )

pub invariant_of-result : goal.invariant_of-result
invariant_of-result g c =
    subst (λ (l : List (g.row.K.Denot × g.row.V.Denot)). IsTrue (is_sorted g.K.Ord.cmp l)) c.as_slice.ensures.value
    (ascending g.K.Ord.cmp g.met.K.Ord.total c.as_slice.result.now c.if-not-ascend.ensures)

pub returns-clause-ascending : goal.returns-clause-ascending
returns-clause-ascending g c =
    subst (λ (l : List (g.row.K.Denot × g.row.V.Denot)). IsTrue (is_sorted g.K.Ord.cmp l)) c.as_slice.ensures.value
    (ascending g.K.Ord.cmp g.met.K.Ord.total c.as_slice.result.now c.if-not-ascend.ensures)
