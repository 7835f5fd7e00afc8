use Rattle.std.proofs.Common.{List, ap, refl, subst, sym, ◌∙◌}
use Rattle.std.specs.Prelude.{IsSome, ◌++◌}
use Rattle.kd_base.specs.TreeLaws.{same_find, same_left}
use Rattle.kd_base.proofs.sorted_pairs.Splitting.{behind_sorted, found_behind, found_in_front, left_behind, left_front, split_left, split_left_behind}
use Rattle.kd_base.proofs.sorted_pairs.ordered.OrderedMap.remove.Goals as goal

pub invariant_of-self : goal.invariant_of-self
invariant_of-self g c =
    rw c.in-Some.ensures.left
    (split_left g.K.Ord.cmp g.met.K.Ord.total c.args.key.now c.self.inside.few c.self.inside.many.entries c.self.invariant (subst IsSome c.in-Some.ensures.value refl))

pub invariant_of-self-in-None : goal.invariant_of-self-in-None
invariant_of-self-in-None g c =
    rw (
      c.in-None.ensures.absent,
      c.remove-in-None.ensures.entries,
      same_left g.K.Ord.cmp c.args.key.now c.self.inside.many.entries g.met.K.Ord.total (behind_sorted g.K.Ord.cmp c.self.inside.few c.self.inside.many.entries c.self.invariant.ascending),
    ) (split_left_behind g.K.Ord.cmp g.met.K.Ord.total c.args.key.now c.self.inside.few c.self.inside.many.entries c.self.invariant c.in-None.ensures.value)

pub returns-in-Some-clause-value : goal.returns-in-Some-clause-value
returns-in-Some-clause-value g c =
    rw (← c.self.view_is) (found_in_front g.K.Ord.cmp c.args.key.now c.in-Some.value c.self.inside.few c.self.inside.many.entries c.in-Some.ensures.value)

pub returns-in-None-clause-value : goal.returns-in-None-clause-value
returns-in-None-clause-value g c =
    rw (← c.self.view_is)
    (c.remove-in-None.ensures.value ∙ same_find g.K.Ord.cmp c.args.key.now c.self.inside.many.entries ∙ found_behind g.K.Ord.cmp c.args.key.now c.self.inside.few c.self.inside.many.entries c.in-None.ensures.value)

pub returns-in-Some-clause-left : goal.returns-in-Some-clause-left
returns-in-Some-clause-left g c =
    let few = c.self.inside.few in
    let many = c.self.inside.many.entries in
    rw (← c.self.view_is)
    (
    ap (λ (l : List (g.row.K.Denot × g.row.V.Denot)). l ++ many) c.in-Some.ensures.left
    ∙ sym (left_front g.K.Ord.cmp g.met.K.Ord.total c.args.key.now few many c.self.invariant.ascending (subst IsSome c.in-Some.ensures.value refl))
    )

pub returns-in-None-clause-left : goal.returns-in-None-clause-left
returns-in-None-clause-left g c =
    let few = c.self.inside.few in
    let many = c.self.inside.many.entries in
    rw (← c.self.view_is, c.in-None.ensures.absent, c.remove-in-None.ensures.entries)
    (
    ap (λ (l : List (g.row.K.Denot × g.row.V.Denot)). few ++ l) (same_left g.K.Ord.cmp c.args.key.now many g.met.K.Ord.total (behind_sorted g.K.Ord.cmp few many c.self.invariant.ascending))
    ∙ sym (left_behind g.K.Ord.cmp c.args.key.now few many c.in-None.ensures.value)
    )
