use Rattle.std.proofs.Common.{List, refl, ap, subst, sym, inl, inr, ◌∙◌, ◌≡◌, true≢false}
use Rattle.std.proofs.lemmas.List.{nil_from_length}
use Rattle.std.specs.Prelude.{[], IsSome, Some, ◌++◌, is_some}
use Rattle.std.specs.FinMap.{find, put}
use Rattle.kd_base.specs.Splits.{IsSplit}
use Rattle.kd_base.specs.ToolsLaws.{none_is}
use Rattle.kd_base.specs.TreeLaws.{same_find, same_written}
use Rattle.kd_base.proofs.sorted_pairs.Splitting.{behind_sorted, found_behind, found_in_front, put_behind, put_front, split_behind, split_front}
use Rattle.kd_base.proofs.sorted_pairs.ordered.OrderedMap.get_mut.Goals as goal

pub invariant_of-self-lent : goal.invariant_of-self-lent
invariant_of-self-lent g c w = split_front g.K.Ord.cmp g.met.K.Ord.total c.args.key.now w c.self.inside.few c.self.inside.many.entries c.self.invariant (subst IsSome c.in-Some.ensures.value refl)

pub invariant_of-self-lent-in-Some-get_mut : goal.invariant_of-self-lent-in-Some-get_mut
invariant_of-self-lent-in-Some-get_mut g c w = split_front g.K.Ord.cmp g.met.K.Ord.total c.args.key.now w c.self.inside.few c.self.inside.many.entries c.self.invariant (subst IsSome c.in-Some-get_mut.ensures.value refl)

pub invariant_of-self-lent-in-Some-get_mut-2 : goal.invariant_of-self-lent-in-Some-get_mut-2
invariant_of-self-lent-in-Some-get_mut-2 g c w =
    let few = c.self.inside.few in
    let many = c.self.inside.many.entries in
    let there = subst IsSome (c.in-Some-get_mut-2.ensures.value ∙ same_find g.K.Ord.cmp c.args.key.now many) refl in
    let written : (c.get_mut-else-contains_key.follows.lender w).entries ≡ put g.K.Ord.cmp c.args.key.now w many =
    (c.get_mut-else-contains_key.follows.holds w).0 ∙ same_written g.K.Ord.cmp c.args.key.now w many g.met.K.Ord.total (behind_sorted g.K.Ord.cmp few many c.self.invariant.ascending) there in
    subst (λ (l : List (g.row.K.Denot × g.row.V.Denot)). IsSplit g.K.Ord.cmp few l) (sym written)
    (split_behind g.K.Ord.cmp g.met.K.Ord.total c.args.key.now w few many c.self.invariant there)

pub returns-in-Some : goal.returns-in-Some
returns-in-Some g c =
    let few = c.self.inside.few in
    let many = c.self.inside.many.entries in
    let found = found_in_front g.K.Ord.cmp c.args.key.now c.in-Some.value.now few many c.in-Some.ensures.value in
    let written : (w : g.row.V.Denot) → put g.K.Ord.cmp c.args.key.now w few ++ many ≡ put g.K.Ord.cmp c.args.key.now w (few ++ many) =
    λ w. sym (put_front g.K.Ord.cmp c.args.key.now w few many (subst IsSome c.in-Some.ensures.value refl)) in (
      λ i. inl (c.in-Some.value.ghost_name, λ w. (written w ∙ ap (put g.K.Ord.cmp c.args.key.now w) c.self.view_is) i),
      record { writes_back = tt; value = found ∙ ap (find g.K.Ord.cmp c.args.key.now) c.self.view_is },
    )

pub returns-in-None : goal.returns-in-None
returns-in-None g c =
    let few = c.self.inside.few in
    let many = c.self.inside.many.entries in
    let empty : many ≡ [] = nil_from_length many (c.is_empty.ensures.0 c.if-is_empty.true) in (
      ap inr c.self.view_is,
      record {
        writes_back = tt;
        value = ap (find g.K.Ord.cmp c.args.key.now) (sym empty) ∙ found_behind g.K.Ord.cmp c.args.key.now few many c.in-None.ensures.value ∙ ap (find g.K.Ord.cmp c.args.key.now) c.self.view_is;
      },
    )

pub returns-in-Some-get_mut : goal.returns-in-Some-get_mut
returns-in-Some-get_mut g c =
    let few = c.self.inside.few in
    let many = c.self.inside.many.entries in
    let found = found_in_front g.K.Ord.cmp c.args.key.now c.in-Some-get_mut.value.now few many c.in-Some-get_mut.ensures.value in
    let written : (w : g.row.V.Denot) → put g.K.Ord.cmp c.args.key.now w few ++ many ≡ put g.K.Ord.cmp c.args.key.now w (few ++ many) =
    λ w. sym (put_front g.K.Ord.cmp c.args.key.now w few many (subst IsSome c.in-Some-get_mut.ensures.value refl)) in (
      λ i. inl (c.in-Some-get_mut.value.ghost_name, λ w. (written w ∙ ap (put g.K.Ord.cmp c.args.key.now w) c.self.view_is) i),
      record { writes_back = tt; value = found ∙ ap (find g.K.Ord.cmp c.args.key.now) c.self.view_is },
    )

-- the list has the key
pub returns-in-None-get_mut : goal.returns-in-None-get_mut
returns-in-None-get_mut g c = absurd (true≢false (sym c.if-contains_key.true ∙ c.contains_key.ensures ∙ sym (ap is_some c.in-None-get_mut.ensures.value)))

pub returns-in-Some-get_mut-2 : goal.returns-in-Some-get_mut-2
returns-in-Some-get_mut-2 g c =
    let few = c.self.inside.few in
    let many = c.self.inside.many.entries in
    let none = none_is (find g.K.Ord.cmp c.args.key.now few) (sym c.contains_key.ensures ∙ c.if-contains_key.false) in
    let found : Some c.in-Some-get_mut-2.value.now ≡ find g.K.Ord.cmp c.args.key.now many = c.in-Some-get_mut-2.ensures.value ∙ same_find g.K.Ord.cmp c.args.key.now many in
    let there = subst IsSome found refl in
    let written : (w : g.row.V.Denot) → few ++ (c.get_mut-else-contains_key.follows.lender w).entries ≡ put g.K.Ord.cmp c.args.key.now w (few ++ many) =
    λ w. ap (λ (l : List (g.row.K.Denot × g.row.V.Denot)). few ++ l)
    ((c.get_mut-else-contains_key.follows.holds w).0 ∙ same_written g.K.Ord.cmp c.args.key.now w many g.met.K.Ord.total (behind_sorted g.K.Ord.cmp few many c.self.invariant.ascending) there)
    ∙ sym (put_behind g.K.Ord.cmp g.met.K.Ord.total c.args.key.now w few many c.self.invariant.ascending there) in (
      λ i. inl (c.in-Some-get_mut-2.value.ghost_name, λ w. (written w ∙ ap (put g.K.Ord.cmp c.args.key.now w) c.self.view_is) i),
      record {
        writes_back = tt;
        value = found ∙ found_behind g.K.Ord.cmp c.args.key.now few many (sym none) ∙ ap (find g.K.Ord.cmp c.args.key.now) c.self.view_is;
      },
    )

pub returns-in-None-get_mut-2 : goal.returns-in-None-get_mut-2
returns-in-None-get_mut-2 g c =
    let few = c.self.inside.few in
    let many = c.self.inside.many.entries in
    let none = none_is (find g.K.Ord.cmp c.args.key.now few) (sym c.contains_key.ensures ∙ c.if-contains_key.false) in (
      ap inr (ap (λ m. few ++ m.entries) c.get_mut-else-contains_key.follows.holds-at-none ∙ c.self.view_is),
      record {
        writes_back = tt;
        value = c.in-None-get_mut-2.ensures.value ∙ same_find g.K.Ord.cmp c.args.key.now many ∙ found_behind g.K.Ord.cmp c.args.key.now few many (sym none) ∙ ap (find g.K.Ord.cmp c.args.key.now) c.self.view_is;
      },
    )
