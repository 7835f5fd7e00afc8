-- The pages that a commit frees: those of chains and of the directory that only the old layout names.
use Rattle.std.proofs.Common.{◌≡◌, ◌⊎◌, inl, inr, ⊎_elim, ℕ, zero, suc, ◌+◌, ◌<◌, List, [], ◌∷◌, ◌++◌, length, Option, Some, None, refl, subst, arith, length-append}
use Rattle.std.specs.Prelude.{set, get_or}
use Rattle.std.proofs.lemmas.List.{length-set}
use Rattle.std.proofs.lemmas.Option.{same_Some, slice_get-get_or}
use Rattle.kdcfile_layout.specs.Places.{At}
use Rattle.kdcfile_layout.specs.PlacesLaws.{no_item, at_set}
use Rattle.kdcfile_layout.specs.declared.chain.Chain.{Chain}
use Rattle.kdcfile_layout.specs.Layout.{Layout, Name, InRoot, InChain, Names, if_used}
use Rattle.page_drafts.specs.CountsLaws.{over_slots_set}
use Rattle.page_drafts.specs.Drafts.{IsUnnamed}
use Rattle.page_drafts.specs.Tables.{pages_in}
use Rattle.page_drafts.specs.Freed.{AreFreed}

pub at_join : {X : Type 0} (xs ys : List X) (n : ℕ) (p : X) → At (xs ++ ys) n p → (At xs n p) ⊎ ((m : ℕ) × At ys m p × (n ≡ length xs + m))
at_join [] ys n p h = inr (n, h, omega arith)
at_join (x ∷ xs) ys zero p h = inl h
at_join (x ∷ xs) ys (suc n) p h = ⊎_elim (λ a. inl a) (λ b. inr (b.0, b.1, omega (arith, b.2))) (at_join xs ys n p h)

one_item : (q p m : ℕ) → At (q ∷ []) m p → (q ≡ p) × (m ≡ 0)
one_item q p zero h = (same_Some q p h, refl)
one_item q p (suc m) h = absurd (no_item m p h)

root_not : (j s b : ℕ) → InRoot j ≡ InChain s b → ⊥
root_not j s b e = cc

chain_not : (j s b : ℕ) → InChain s b ≡ InRoot j → ⊥
chain_not j s b e = cc

slot_same : (s r a b : ℕ) → InChain r a ≡ InChain s b → s ≡ r
slot_same s r a b e = cc

part_same : (s a b : ℕ) → InChain s a ≡ InChain s b → a ≡ b
part_same s a b e = cc

place_same : (j k : ℕ) → InRoot j ≡ InRoot k → k ≡ j
place_same j k e = cc

length_in : (o : Option Chain) → length (pages_in o) ≡ if_used (λ c. length c.pages) o
length_in None = refl
length_in (Some c) = refl

-- a slot that had a chain of the first layout, or none, gets another of the plan's next pages, or none
module _ (from l : Layout) (plan : List ℕ) (t next : ℕ) (apart : IsUnnamed from plan) (once : (u v : Name) (p : ℕ) → Names l u p → Names l v p → u ≡ v) (s : ℕ) (o : Option Chain) (in_table : s < length l.slots)
    (new : (c : Chain) (a p : ℕ) → o ≡ Some c → At c.pages a p → At plan (t + a) p × (t + a < next)) (counted : next ≡ t + if_used (λ c. length c.pages) o) (old : (c : Chain) → At l.slots s (Some c) → At from.slots s (Some c)) (freed : List ℕ) (are : AreFreed from plan l t freed) where
  was_there : (b p : ℕ) → At (pages_in (get_or l.slots s None)) b p → (c : Chain) × At l.slots s (Some c) × At c.pages b p
  was_there b p at = by (get_or l.slots s None) (slice_get-get_or l.slots s None in_table) at
    where
      by : (x : Option Chain) → At l.slots s x → At (pages_in x) b p → (c : Chain) × At l.slots s (Some c) × At c.pages b p
      by None here at = absurd (no_item b p at)
      by (Some c) here at = (c, here, at)

  was_from : (b p : ℕ) → At (pages_in (get_or l.slots s None)) b p → Names from (InChain s b) p
  was_from b p at = let c = was_there b p at in (c.0, old c.0 c.1, c.2)

  -- what is named now is on the plan, or in another slot or in the root as before
  named_now : (u : Name) (p : ℕ) → Names (record l { slots = set l.slots s o }) u p → ((a : ℕ) × At plan (t + a) p × (t + a < next)) ⊎ (Names l u p × ((b : ℕ) → u ≡ InChain s b → ⊥))
  named_now (InRoot j) p at = inr (at, λ b e. root_not j s b e)
  named_now (InChain r a) p (c, at, page) =
      ⊎_elim
      (λ x. let q = new c a p x.1 page in inl (a, q.0, q.1))
      (λ y. inr ((c, y.1, page), λ b e. y.0 (slot_same s r a b e)))
      (at_set l.slots s r o (Some c) at)

  pub slot_freed : AreFreed from plan (record l { slots = set l.slots s o }) next (freed ++ pages_in (get_or l.slots s None))
  slot_freed = record {
    unnamed = λ u p n named at.
        ⊎_elim
        (λ x. ⊎_elim
        (λ f. let was = are.named n p f in apart was.0 p (t + x.0) was.1 x.1)
        (λ f. apart (InChain s f.0) p (t + x.0) (was_from f.0 p f.1) x.1)
        (at_join freed (pages_in (get_or l.slots s None)) n p at))
        (λ y. ⊎_elim
        (λ f. are.unnamed u p n y.0 f)
        (λ f. y.1 f.0 (once u (InChain s f.0) p y.0 (was_there f.0 p f.1)))
        (at_join freed (pages_in (get_or l.slots s None)) n p at))
        (named_now u p named);
    distinct = λ a b p x y.
        ⊎_elim
        (λ f. ⊎_elim
        (λ g. are.distinct a b p f g)
        (λ g. absurd (are.unnamed (InChain s g.0) p a (was_there g.0 p g.1) f))
        (at_join freed (pages_in (get_or l.slots s None)) b p y))
        (λ f. ⊎_elim
        (λ g. absurd (are.unnamed (InChain s f.0) p b (was_there f.0 p f.1) g))
        (λ g. let e : f.0 ≡ g.0 = part_same s f.0 g.0 (once (InChain s f.0) (InChain s g.0) p (was_there f.0 p f.1) (was_there g.0 p g.1)) in omega (arith, f.2, g.2, e))
        (at_join freed (pages_in (get_or l.slots s None)) b p y))
        (at_join freed (pages_in (get_or l.slots s None)) a p x);
    named = λ n p at. ⊎_elim (λ f. are.named n p f) (λ f. (InChain s f.0, was_from f.0 p f.1)) (at_join freed (pages_in (get_or l.slots s None)) n p at);
    kept = λ u p named.
        ⊎_elim
        (λ x. inr (t + x.0, x.1, x.2))
        (λ y. ⊎_elim (λ is. inl is) (λ on. inr (on.0, on.1, omega (arith, on.2, counted))) (are.kept u p y.0))
        (named_now u p named);
    count =
        omega (arith, are.count, length-append freed (pages_in (get_or l.slots s None)), length_in (get_or l.slots s None), over_slots_set (λ (c : Chain). length c.pages) l.slots s o in_table, counted);
  }

-- a page of the directory, which was one of the first layout, becomes the plan's next page
module _ (from l : Layout) (plan : List ℕ) (t : ℕ) (apart : IsUnnamed from plan) (once : (u v : Name) (p : ℕ) → Names l u p → Names l v p → u ≡ v) (k q was : ℕ) (there : At plan t q) (here : At l.directory k was) (old : At from.directory k was) (freed : List ℕ) (are : AreFreed from plan l t freed) where
  page_now : (u : Name) (p : ℕ) → Names (record l { directory = set l.directory k q }) u p → (q ≡ p) ⊎ (Names l u p × (u ≡ InRoot k → ⊥))
  page_now (InRoot j) p at = ⊎_elim (λ x. inl x.1) (λ y. inr (y.1, λ e. y.0 (place_same j k e))) (at_set l.directory k j q p at)
  page_now (InChain r a) p names = inr (names, λ e. chain_not k r a e)

  old_named : (p m : ℕ) → At (was ∷ []) m p → Names l (InRoot k) p × Names from (InRoot k) p
  old_named p m at = let e = (one_item was p m at).0 in (subst (λ (n : ℕ). At l.directory k n) e here, subst (λ (n : ℕ). At from.directory k n) e old)

  pub page_freed : AreFreed from plan (record l { directory = set l.directory k q }) (t + 1) (freed ++ was ∷ [])
  page_freed = record {
    unnamed = λ u p n named at.
        ⊎_elim
        (λ x. ⊎_elim
        (λ f. let first = are.named n p f in apart first.0 p t first.1 (subst (λ (m : ℕ). At plan t m) x there))
        (λ f. apart (InRoot k) p t (old_named p f.0 f.1).1 (subst (λ (m : ℕ). At plan t m) x there))
        (at_join freed (was ∷ []) n p at))
        (λ y. ⊎_elim
        (λ f. are.unnamed u p n y.0 f)
        (λ f. y.1 (once u (InRoot k) p y.0 (old_named p f.0 f.1).0))
        (at_join freed (was ∷ []) n p at))
        (page_now u p named);
    distinct = λ a b p x y.
        ⊎_elim
        (λ f. ⊎_elim
        (λ g. are.distinct a b p f g)
        (λ g. absurd (are.unnamed (InRoot k) p a (old_named p g.0 g.1).0 f))
        (at_join freed (was ∷ []) b p y))
        (λ f. ⊎_elim
        (λ g. absurd (are.unnamed (InRoot k) p b (old_named p f.0 f.1).0 g))
        (λ g. omega (arith, f.2, g.2, (one_item was p f.0 f.1).1, (one_item was p g.0 g.1).1))
        (at_join freed (was ∷ []) b p y))
        (at_join freed (was ∷ []) a p x);
    named = λ n p at. ⊎_elim (λ f. are.named n p f) (λ f. (InRoot k, (old_named p f.0 f.1).1)) (at_join freed (was ∷ []) n p at);
    kept = λ u p named.
        ⊎_elim
        (λ x. inr (t, subst (λ (m : ℕ). At plan t m) x there, omega arith))
        (λ y. ⊎_elim (λ is. inl is) (λ on. inr (on.0, on.1, omega (arith, on.2))) (are.kept u p y.0))
        (page_now u p named);
    count = omega (arith, are.count, length-append freed (was ∷ []), length-set l.directory k q);
  }

-- nothing is freed at the beginning
pub none_freed : (l : Layout) (plan : List ℕ) → AreFreed l plan l 0 []
none_freed l plan = record {
  unnamed = λ u p n named at. no_item n p at;
  distinct = λ a b p x y. absurd (no_item a p x);
  named = λ n p at. absurd (no_item n p at);
  kept = λ u p named. inl (u, named);
  count = omega arith;
}
