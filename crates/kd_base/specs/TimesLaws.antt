-- Laws: how often a key is among pairs, and pairs that are sorted by their keys.
use Rattle.std.specs.Prelude.{◌≡◌, refl, ℕ, zero, suc, ◌+◌, ◌<◌, ◌≤◌, Bool, true, false, cond, IsTrue, List, [], ◌∷◌, length, Some, Contains, slice_index_or}
use Rattle.std.proofs.Common.{arith, sym, ap, ◌∙◌}
use Rattle.std.specs.Ordering.{is_eq, is_lt, eq_by_cmp, ordering_reverse}
use Rattle.std.specs.declared.cmp.Ordering.{Ordering}
use Rattle.std.specs.declared.cmp.Ordering.TheVariants.{Less, Equal, Greater}
use Rattle.std.specs.Cmp.{IsTotalOrder}
use Rattle.std.specs.FinMap.{find, is_sorted}
use Rattle.std.specs.FinMap.Entries.{below_all}
use Rattle.std.specs.List.Sorted.{IsPermutation, IsSortedByKey}
use Rattle.std.proofs.lemmas.Cmp.{tied_itself}
use Rattle.std.proofs.lemmas.Option.{none-some, same_Some}
use Rattle.std.proofs.lemmas.List.Sums.{sum_by-cons}
use Rattle.std.proofs.lemmas.List.Sorted.{sum_by-IsPermutation, Contains-permutation, IsPermutation-sym}
use Rattle.kd_base.specs.ToolsLaws.{both_true, true_both}
use Rattle.kd_base.specs.OrderLaws.{is_less}
use Rattle.kd_base.specs.Places.{times}

module _ {K X : Type 0} (R : K → K → Ordering) where
  pub times_first : (q : K) (e : K × X) (es : List (K × X)) (b : Bool) → eq_by_cmp R q e.0 ≡ b → times R q (e ∷ es) ≡ cond b 1 0 + times R q es
  times_first q e es b is = sum_by-cons (λ (x : K × X). cond (eq_by_cmp R q x.0) 1 0) e es ∙ ap (λ (t : Bool). cond t 1 0 + times R q es) is

  -- a key that is apart pair's is there no time
  pub times_none : (q : K) (es : List (K × X)) → ((e : K × X) → Contains es e → R q e.0 ≡ Equal → ⊥) → times R q es ≡ 0
  times_none q [] none = refl
  times_none q (e ∷ es) none =
      omega (
        arith,
        times_first q e es false (not_equal (R q e.0) (none e (zero, omega arith, refl))),
        times_none q es (λ x there. none x (suc there.0, omega (arith, there.1), there.2)),
      )
    where
      not_equal : (r : Ordering) → (r ≡ Equal → ⊥) → is_eq r ≡ false
      not_equal Less apart = refl
      not_equal Equal apart = absurd (apart refl)
      not_equal Greater apart = refl

  pub times_permutation : (q : K) (es fs : List (K × X)) → IsPermutation es fs → times R q fs ≡ times R q es
  times_permutation q es fs p = sum_by-IsPermutation (λ (x : K × X). cond (eq_by_cmp R q x.0) 1 0) es fs p

  -- what is found is in a pair
  pub found_in : (q : K) (v : X) (es : List (K × X)) → find R q es ≡ Some v → (k : K) × (R q k ≡ Equal) × Contains es (k, v)
  found_in q v [] h = absurd (none-some v h)
  found_in q v (e ∷ es) h = by (R q e.0) refl (λ rest. found_in q v es rest)
    where
      later : is_eq (R q e.0) ≡ false → (find R q es ≡ Some v → ((k : K) × (R q k ≡ Equal) × Contains es (k, v))) → ((k : K) × (R q k ≡ Equal) × Contains (e ∷ es) (k, v))
      later apart rest =
          let c = rest (sym (ap (λ (b : Bool). cond b (Some e.1) (find R q es)) apart) ∙ h) in
          (c.0, c.1, (suc c.2.0, omega (arith, c.2.1), c.2.2))

      by : (r : Ordering) → R q e.0 ≡ r → (find R q es ≡ Some v → ((k : K) × (R q k ≡ Equal) × Contains es (k, v))) → ((k : K) × (R q k ≡ Equal) × Contains (e ∷ es) (k, v))
      by Less is rest = later (ap is_eq is) rest
      by Equal is rest =
          let same : e.1 ≡ v = same_Some e.1 v (sym (ap (λ (o : Ordering). cond (is_eq o) (Some e.1) (find R q es)) is) ∙ h) in
          (e.0, is, (zero, omega arith, ap (λ (x : X). (e.0, x)) same))
      by Greater is rest = later (ap is_eq is) rest

module _ {K X : Type 0} (R : K → K → Ordering) (o : IsTotalOrder R) where
  -- ---- pairs in ascending order

  below_tied : (q k : K) (es : List (K × X)) → R q k ≡ Equal → IsTrue (below_all R k es) → (e : K × X) → Contains es e → R q e.0 ≡ Less
  below_tied q k [] tied below e c = absurd (omega (arith, c.1))
  below_tied q k (x ∷ xs) tied below e (zero, lt, is) =
      o.congr q k e.0 tied ∙ ap (λ (z : K × X). R k z.0) (sym is) ∙ is_less _ (both_true (is_lt (R k x.0)) (below_all R k xs) below).0
  below_tied q k (x ∷ xs) tied below e (suc n, lt, is) =
      below_tied q k xs tied (both_true (is_lt (R k x.0)) (below_all R k xs) below).1 e (n, omega (arith, lt), is)

  -- no key is there twice
  pub times_sorted : (q : K) (es : List (K × X)) → IsTrue (is_sorted R es) → times R q es ≤ 1
  times_sorted q [] up = omega arith
  times_sorted q (e ∷ es) up = by (R q e.0) refl (times_sorted q es (both_true (below_all R e.0 es) (is_sorted R es) up).1)
    where
      less_not_equal : (r : Ordering) → r ≡ Less → r ≡ Equal → ⊥
      less_not_equal r l e = cc

      by : (r : Ordering) → R q e.0 ≡ r → times R q es ≤ 1 → times R q (e ∷ es) ≤ 1
      by Less is rest = omega (arith, times_first R q e es false (ap is_eq is), rest)
      by Equal is rest =
          let below = (both_true (below_all R e.0 es) (is_sorted R es) up).0 in
          omega (arith, times_first R q e es true (ap is_eq is), times_none R q es (λ x there. less_not_equal _ (below_tied q e.0 es is below x there)))
      by Greater is rest = omega (arith, times_first R q e es false (ap is_eq is), rest)

  -- each of them is found
  pub found_of : (k : K) (v : X) (es : List (K × X)) → IsTrue (is_sorted R es) → Contains es (k, v) → find R k es ≡ Some v
  found_of k v [] up c = absurd (omega (arith, c.1))
  found_of k v (e ∷ es) up (zero, lt, is) =
      ap (λ (x : K × X). cond (eq_by_cmp R k x.0) (Some x.1) (find R k es)) is
      ∙ ap (λ (r : Ordering). cond (is_eq r) (Some v) (find R k es)) (tied_itself o k)
  found_of k v (e ∷ es) up (suc n, lt, is) =
      let parts = both_true (below_all R e.0 es) (is_sorted R es) up in
      let there : Contains es (k, v) = (n, omega (arith, lt), is) in
      ap (λ (r : Ordering). cond (is_eq r) (Some e.1) (find R k es)) (o.antisymm k e.0 ∙ ap ordering_reverse (below_tied e.0 e.0 es (tied_itself o e.0) parts.0 (k, v) there))
      ∙ found_of k v es parts.1 there

  -- ---- pairs, and the same pairs in ascending order

  module _ (es fs : List (K × X)) (p : IsPermutation es fs) (up : IsTrue (is_sorted R fs)) where
    pub once_of : (q : K) → times R q es ≤ 1
    once_of q = omega (arith, times_permutation R q es fs p, times_sorted q fs up)

    pub found_pair : (k : K) (v : X) → Contains es (k, v) → find R k fs ≡ Some v
    found_pair k v c = found_of k v fs up (Contains-permutation es fs (k, v) p c)

    pub pair_found : (q : K) (v : X) → find R q fs ≡ Some v → (k : K) × (R q k ≡ Equal) × Contains es (k, v)
    pair_found q v h = let c = found_in R q v fs h in (c.0, c.1, Contains-permutation fs es (c.0, v) (IsPermutation-sym es fs p) c.2)

  -- ---- neighbours that are compared

  below_less : (j k : K) (es : List (K × X)) → R j k ≡ Less → IsTrue (below_all R k es) → IsTrue (below_all R j es)
  below_less j k [] less below = refl
  below_less j k (e ∷ es) less below =
      let parts = both_true (is_lt (R k e.0)) (below_all R k es) below in
      true_both (is_lt (R j e.0)) (below_all R j es) (ap is_lt (o.trans j k e.0 less (is_less _ parts.0))) (below_less j k es less parts.1)

  -- each is less than the next one
  pub ascending : (es : List (K × X)) → ((k : ℕ) (d : K × X) → k + 1 < length es → true ≡ is_lt (R ((slice_index_or es k d).0) ((slice_index_or es (k + 1) d).0))) → IsTrue (is_sorted R es)
  ascending [] up = refl
  ascending (x ∷ []) up = refl
  ascending (x ∷ y ∷ ys) up =
      let rest = ascending (y ∷ ys) (λ k d lt. let e : suc k + 1 ≡ suc (k + 1) = omega arith in rw e at (up (suc k) d (omega (arith, lt)))) in
      let less : R x.0 y.0 ≡ Less = is_less _ (sym (up zero x (omega arith))) in
      let parts = both_true (below_all R y.0 ys) (is_sorted R ys) rest in
      true_both (below_all R x.0 (y ∷ ys)) (is_sorted R (y ∷ ys)) (true_both (is_lt (R x.0 y.0)) (below_all R x.0 ys) (ap is_lt less) (below_less x.0 y.0 ys less parts.0)) rest

  -- or two have the same key
  pub twice_at : (es : List (K × X)) (k : ℕ) → k + 1 < length es → ((d : K × X) → false ≡ is_lt (R ((slice_index_or es k d).0) ((slice_index_or es (k + 1) d).0))) → IsSortedByKey (λ (e : K × X). e.0) R es → (q : K) × (1 < times R q es)
  twice_at [] k lt apart up = absurd (omega (arith, lt))
  twice_at (x ∷ []) k lt apart up = absurd (omega (arith, lt))
  twice_at (x ∷ y ∷ ys) zero lt apart up =
      let tied : R x.0 y.0 ≡ Equal = between (R x.0 y.0) (sym (apart x)) (ap is_lt (sym (o.antisymm y.0 x.0)) ∙ up zero x (omega arith) (omega arith)) in
      let first = times_first R x.0 x (y ∷ ys) true (ap is_eq (tied_itself o x.0)) in
      let second = times_first R x.0 y ys true (ap is_eq tied) in
      (x.0, omega (arith, first, second))
    where
      between : (r : Ordering) → is_lt r ≡ false → is_lt (ordering_reverse r) ≡ false → r ≡ Equal
      between Less a b = absurd cc
      between Equal a b = refl
      between Greater a b = absurd cc
  twice_at (x ∷ y ∷ ys) (suc k) lt apart up =
      let e : suc k + 1 ≡ suc (k + 1) = omega arith in
      let rest =
      twice_at (y ∷ ys) k (omega (arith, lt)) (λ d. rw e at (apart d))
      (λ j d low high. let f : suc j + 1 ≡ suc (j + 1) = omega arith in rw f at (up (suc j) d (omega arith) (omega (arith, high)))) in
      let first = sum_by-cons (λ (z : K × X). cond (eq_by_cmp R rest.0 z.0) 1 0) x (y ∷ ys) in
      (rest.0, omega (arith, first, rest.1))
