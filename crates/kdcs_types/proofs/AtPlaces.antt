-- What is at the place of a key is the item of that key, and a change there is the change at that key.
use Rattle.std.specs.Prelude.{◌≡◌, refl, ℕ, zero, suc, ◌+◌, ◌<◌, ◌≤◌, false, cond, not, IsTrue, List, [], ◌∷◌, map, length, Option, Some, None, Result, Ok, Err, slice_get, slice_set, slice_index_or}
use Rattle.std.proofs.Common.{sym, ap, subst, ◌∙◌, arith, inl, inr}
use Rattle.std.specs.List.{insert, remove, AllWithin, HoldsAt}
use Rattle.std.specs.List.Sorted.{IsSortedBy}
use Rattle.std.specs.Ordering.{is_eq, is_lt, ordering_reverse}
use Rattle.std.specs.declared.cmp.Ordering.{Ordering}
use Rattle.std.specs.declared.cmp.Ordering.TheVariants.{Less, Equal, Greater}
use Rattle.std.specs.FinMap.{put, is_sorted}
use Rattle.std.specs.FinMap.Entries.{by_order, below_all}
use Rattle.std.proofs.lemmas.Bool.{cases_lt}
use Rattle.std.proofs.lemmas.List.Sorted.{searchable_from_sorted}
use Rattle.kd_base.specs.ToolsLaws.{both_true}
use Rattle.kdcs_types.specs.declared.key.Key.{Key}
use Rattle.kdcs_types.specs.Keys.{key_cmp, key_eq}
use Rattle.kdcs_types.specs.Keyed.{keyed, ascends, item_at, with_item, without_item}
use Rattle.kdcs_types.specs.KeyLaws.{key_total, same_key}
use Rattle.kdcs_types.specs.KeyedLaws.{items_back}
use Rattle.kdcs_types.specs.Places.{IsPlaceOf, found_at, placed_at, removed_at}
use Rattle.kd_base.specs.OrderLaws.{is_less}

turned : (a b : Key) {r : Ordering} → key_cmp a b ≡ r → key_cmp b a ≡ ordering_reverse r
turned a b e = key_total.antisymm b a ∙ ap ordering_reverse e

module _ {E : Type 0} (key_of : E → Key) where
  below_at : (k : Key) (es : List E) (i : ℕ) (d : E) → IsTrue (below_all key_cmp k (keyed key_of es)) → i < length es → key_cmp k (key_of (slice_index_or es i d)) ≡ Less
  below_at k [] i d h lt = absurd (omega arith)
  below_at k (x ∷ xs) zero d h lt = is_less _ (both_true (is_lt (key_cmp k (key_of x))) (below_all key_cmp k (keyed key_of xs)) h).0
  below_at k (x ∷ xs) (suc i) d h lt = below_at k xs i d (both_true (is_lt (key_cmp k (key_of x))) (below_all key_cmp k (keyed key_of xs)) h).1 (omega arith)

  -- ---- a key that no item has

  abbrev IsAbsent : Key → List E → Type 0
  IsAbsent k es = (i : ℕ) (d : E) → i < length es → key_eq k (key_of (slice_index_or es i d)) ≡ false

  absent_tail : (k : Key) (x : E) (xs : List E) → IsAbsent k (x ∷ xs) → IsAbsent k xs
  absent_tail k x xs h i d lt = h (suc i) d (omega arith)

  absent_found : (k : Key) (es : List E) → IsAbsent k es → item_at key_of k es ≡ None
  absent_found k [] h = refl
  absent_found k (x ∷ xs) h = ap (λ b. cond b (Some x) (item_at key_of k xs)) (h zero x (omega arith)) ∙ absent_found k xs (absent_tail k x xs h)

  absent_removed : (k : Key) (es : List E) → IsAbsent k es → without_item key_of k es ≡ es
  absent_removed k [] h = refl
  absent_removed k (x ∷ xs) h =
      ap (λ b. cond (not b) (x ∷ without_item key_of k xs) (without_item key_of k xs)) (h zero x (omega arith))
      ∙ ap (λ (l : List E). x ∷ l) (absent_removed k xs (absent_tail k x xs h))

  absent_above : (k : Key) (es : List E) → IsTrue (below_all key_cmp k (keyed key_of es)) → IsAbsent k es
  absent_above k es h i d lt = ap is_eq (below_at k es i d h lt)

  -- ---- a key that an item has

  module _ (k : Key) where
    abbrev IsAt : List E → ℕ → Type 0
    IsAt es i = HoldsAt (λ e. key_cmp (key_of e) k ≡ Equal) es i

    -- the items before it have lesser keys
    before : (x : E) (xs : List E) (i : ℕ) → IsTrue (ascends key_of (x ∷ xs)) → i < length xs → IsAt (x ∷ xs) (suc i) → key_cmp (key_of x) k ≡ Less
    before x xs i up lt at =
        let below = both_true (below_all key_cmp (key_of x) (keyed key_of xs)) (is_sorted key_cmp (keyed key_of xs)) up in
        ap (key_cmp (key_of x)) (sym (same_key _ k (at x))) ∙ below_at (key_of x) xs i x below.0 lt

    up_tail : (x : E) (xs : List E) → IsTrue (ascends key_of (x ∷ xs)) → IsTrue (ascends key_of xs)
    up_tail x xs up = (both_true (below_all key_cmp (key_of x) (keyed key_of xs)) (is_sorted key_cmp (keyed key_of xs)) up).1

    present_found : (es : List E) (i : ℕ) → IsTrue (ascends key_of es) → i < length es → IsAt es i → item_at key_of k es ≡ slice_get es i
    present_found [] i up lt at = absurd (omega arith)
    present_found (x ∷ xs) zero up lt at = ap (λ r. cond (is_eq r) (Some x) (item_at key_of k xs)) (turned _ k (at x))
    present_found (x ∷ xs) (suc i) up lt at =
        ap (λ r. cond (is_eq r) (Some x) (item_at key_of k xs)) (turned _ k (before x xs i up (omega arith) at))
        ∙ present_found xs i (up_tail x xs up) (omega arith) (λ d. at d)

    present_removed : (es : List E) (i : ℕ) → IsTrue (ascends key_of es) → i < length es → IsAt es i → without_item key_of k es ≡ remove es i
    present_removed [] i up lt at = absurd (omega arith)
    present_removed (x ∷ xs) zero up lt at =
        let below = both_true (below_all key_cmp (key_of x) (keyed key_of xs)) (is_sorted key_cmp (keyed key_of xs)) up in
        ap (λ r. cond (not (is_eq r)) (x ∷ without_item key_of k xs) (without_item key_of k xs)) (turned _ k (at x))
        ∙ absent_removed k xs (absent_above k xs (subst (λ j. IsTrue (below_all key_cmp j (keyed key_of xs))) (same_key _ k (at x)) below.0))
    present_removed (x ∷ xs) (suc i) up lt at =
        ap (λ r. cond (not (is_eq r)) (x ∷ without_item key_of k xs) (without_item key_of k xs)) (turned _ k (before x xs i up (omega arith) at))
        ∙ ap (λ (l : List E). x ∷ l) (present_removed xs i (up_tail x xs up) (omega arith) (λ d. at d))

  -- ---- putting an item in

  put_step : (e x : E) (xs : List E) (r : Ordering) → key_cmp (key_of e) (key_of x) ≡ r
      → with_item key_of e (x ∷ xs) ≡ map (λ p. p.1) (by_order r ((key_of e, e) ∷ (key_of x, x) ∷ keyed key_of xs) ((key_of x, e) ∷ keyed key_of xs) ((key_of x, x) ∷ put key_cmp (key_of e) e (keyed key_of xs)))
  put_step e x xs r h = ap (λ o. map (λ p. p.1) (by_order o ((key_of e, e) ∷ (key_of x, x) ∷ keyed key_of xs) ((key_of x, e) ∷ keyed key_of xs) ((key_of x, x) ∷ put key_cmp (key_of e) e (keyed key_of xs)))) h

  present_set : (e : E) (es : List E) (i : ℕ) → IsTrue (ascends key_of es) → i < length es → IsAt (key_of e) es i → with_item key_of e es ≡ slice_set es i e
  present_set e [] i up lt at = absurd (omega arith)
  present_set e (x ∷ xs) zero up lt at = put_step e x xs Equal (turned (key_of x) (key_of e) (at x)) ∙ ap (λ (l : List E). e ∷ l) (items_back key_of xs)
  present_set e (x ∷ xs) (suc i) up lt at =
      put_step e x xs Greater (turned (key_of x) (key_of e) (before (key_of e) x xs i up (omega arith) at))
      ∙ ap (λ (l : List E). x ∷ l) (present_set e xs i (up_tail (key_of e) x xs up) (omega arith) (λ d. at d))

  absent_set : (e : E) (es : List E) (i : ℕ) → i ≤ length es → AllWithin (λ y. key_cmp (key_of y) (key_of e) ≡ Less) es 0 i → AllWithin (λ y. key_cmp (key_of y) (key_of e) ≡ Greater) es i (length es)
      → with_item key_of e es ≡ insert es i e
  absent_set e [] zero lt below above = refl
  absent_set e [] (suc i) lt below above = absurd (omega arith)
  absent_set e (x ∷ xs) zero lt below above = put_step e x xs Less (turned (key_of x) (key_of e) (above zero x (omega arith) (omega arith))) ∙ ap (λ (l : List E). e ∷ x ∷ l) (items_back key_of xs)
  absent_set e (x ∷ xs) (suc i) lt below above =
      put_step e x xs Greater (turned (key_of x) (key_of e) (below zero x (omega arith) (omega arith)))
      ∙ ap (λ (l : List E). x ∷ l) (absent_set e xs i (omega arith) (λ j d low high. below (suc j) d (omega arith) (omega arith)) (λ j d low high. above (suc j) d (omega arith) (omega arith)))

  -- ---- a binary search

  sorted_by : (es : List E) → IsTrue (ascends key_of es) → IsSortedBy (λ a b. is_lt (key_cmp (key_of a) (key_of b))) es
  sorted_by [] up k d low high = absurd (omega arith)
  sorted_by (x ∷ []) up k d low high = absurd (omega arith)
  sorted_by (x ∷ y ∷ ys) up zero d low high =
      let below = both_true (below_all key_cmp (key_of x) (keyed key_of (y ∷ ys))) (is_sorted key_cmp (keyed key_of (y ∷ ys))) up in
      ap is_lt (turned (key_of x) (key_of y) (below_at (key_of x) (y ∷ ys) 0 y below.0 (omega arith)))
  sorted_by (x ∷ y ∷ ys) up (suc k) d low high =
      let below = both_true (below_all key_cmp (key_of x) (keyed key_of (y ∷ ys))) (is_sorted key_cmp (keyed key_of (y ∷ ys))) up in
      let e : suc k + 1 ≡ suc (k + 1) = omega arith in
      rw e (sorted_by (y ∷ ys) below.1 k d (omega arith) (omega arith))

  module _ (k : Key) (es : List E) (up : IsTrue (ascends key_of es)) where
    parted : (i : ℕ) → IsPlaceOf key_of k es (Err i) → (AllWithin (λ y. key_cmp (key_of y) k ≡ Less) es 0 i) × (AllWithin (λ y. key_cmp (key_of y) k ≡ Greater) es i (length es))
    parted i p = p.position (searchable_from_sorted key_total key_of es k (sorted_by es up))

    gap_absent : (i : ℕ) → IsPlaceOf key_of k es (Err i) → IsAbsent k es
    gap_absent i p j d lt =
        let parts = parted i p in
        elim (cases_lt j i) [
          | inl below ↦ ap is_eq (turned _ k (parts.0 j d (omega arith) below))
          | inr above ↦ ap is_eq (turned _ k (parts.1 j d above lt))
        ]

    pub place_found : (r : Result ℕ ℕ) → IsPlaceOf key_of k es r → found_at r es ≡ item_at key_of k es
    place_found (Ok i) p = sym (present_found k es i up p.range p.position)
    place_found (Err i) p = sym (absent_found k es (gap_absent i p))

    pub place_removed : (r : Result ℕ ℕ) → IsPlaceOf key_of k es r → removed_at r es ≡ without_item key_of k es
    place_removed (Ok i) p = sym (present_removed k es i up p.range p.position)
    place_removed (Err i) p = sym (absent_removed k es (gap_absent i p))

  pub place_set : (e : E) (es : List E) → IsTrue (ascends key_of es) → (r : Result ℕ ℕ) → IsPlaceOf key_of (key_of e) es r → placed_at r e es ≡ with_item key_of e es
  place_set e es up (Ok i) p = sym (present_set e es i up p.range p.position)
  place_set e es up (Err i) p =
      let parts = parted (key_of e) es up i p in
      sym (absent_set e es i p.range parts.0 parts.1)

  -- what was read there, of a list that is the same
  pub found_in : (k : Key) (es searched read : List E) → IsTrue (ascends key_of es) → searched ≡ es → read ≡ es → (r : Result ℕ ℕ) → IsPlaceOf key_of k searched r → (o : Option E) → o ≡ found_at r read → o ≡ item_at key_of k es
  found_in k es searched read up s t r p o is = is ∙ ap (found_at r) t ∙ place_found k es up r (subst (λ l. IsPlaceOf key_of k l r) s p)

  -- what a change there made
  pub set_in : (e : E) (es searched : List E) → IsTrue (ascends key_of es) → searched ≡ es → (r : Result ℕ ℕ) → IsPlaceOf key_of (key_of e) searched r → (o : List E) → o ≡ placed_at r e es → o ≡ with_item key_of e es
  set_in e es searched up s r p o is = is ∙ place_set e es up r (subst (λ l. IsPlaceOf key_of (key_of e) l r) s p)

  pub removed_in : (k : Key) (es searched : List E) → IsTrue (ascends key_of es) → searched ≡ es → (r : Result ℕ ℕ) → IsPlaceOf key_of k searched r → (o : List E) → o ≡ removed_at r es → o ≡ without_item key_of k es
  removed_in k es searched up s r p o is = is ∙ place_removed k es up r (subst (λ l. IsPlaceOf key_of k l r) s p)
