-- Laws: lists of pairs in ascending order of their keys: where a key stands, what is found there, and what a change there makes.
use Rattle.std.specs.Prelude.{◌≡◌, refl, ℕ, zero, suc, ◌+◌, ◌<◌, ◌≤◌, Bool, true, false, cond, not, IsTrue, List, [], ◌∷◌, filter, length, Option, None, Some, Result, Ok, Err, slice_get, slice_set}
use Rattle.std.specs.Prelude.{slice_index_or, option_map}
use Rattle.std.proofs.Common.{arith, sym, ap, subst, ◌∙◌, inl, inr}
use Rattle.std.specs.Ordering.{is_eq, is_lt, eq_by_cmp, ordering_reverse}
use Rattle.std.specs.declared.cmp.Ordering.{Ordering}
use Rattle.std.specs.declared.cmp.Ordering.TheVariants.{Less, Equal, Greater}
use Rattle.std.specs.Cmp.{IsTotalOrder, alike_right, eq_by_cmp_equiv}
use Rattle.std.specs.FinMap.{find, put, is_sorted}
use Rattle.std.specs.FinMap.Entries.{by_order, below_all, find-put, find-where_key, find_tied, is_sorted-put, is_sorted-where_key, same_entries}
use Rattle.std.specs.List.{AllWithin, HoldsAt, insert, remove}
use Rattle.std.specs.List.Sorted.{IsSortedBy}
use Rattle.std.proofs.lemmas.Bool.{cases_lt}
use Rattle.std.proofs.lemmas.List.Sorted.{searchable_from_sorted}
use Rattle.std.proofs.lemmas.Option.{slice_get_read}
use Rattle.kd_base.specs.ToolsLaws.{both_true, cond_not, true_both}
use Rattle.kd_base.specs.Places.{IsPlace, without}
use Rattle.kd_base.specs.OrderLaws.{is_less, holds, is_true}

-- the value at a place, if one is there
abbrev pub value_there : {K X : Type 0} → Result ℕ ℕ → List (K × X) → Option X
value_there (Ok at) pairs = option_map (λ e. e.1) (slice_get pairs at)
value_there (Err at) pairs = None

-- ---- the order stays

pub left_sorted : {K X : Type 0} (R : K → K → Ordering) (key : K) (pairs : List (K × X)) → IsTrue (is_sorted R pairs) → IsTrue (is_sorted R (without R key pairs))
left_sorted R key pairs up = is_true _ (is_sorted-where_key R (λ k. not (eq_by_cmp R key k)) pairs (holds _ up))

below_filtered : {K X : Type 0} (R : K → K → Ordering) (test : K × X → Bool) (key : K) (pairs : List (K × X)) → IsTrue (below_all R key pairs) → IsTrue (below_all R key (filter test pairs))
below_filtered R test key [] below = refl
below_filtered R test key (e ∷ es) below =
    let parts = both_true (is_lt (R key e.0)) (below_all R key es) below in
    let rest = below_filtered R test key es parts.1 in
    elim (test e) as (λ b. IsTrue (below_all R key (cond b (e ∷ filter test es) (filter test es)))) [ true ↦ true_both _ _ parts.0 rest | false ↦ rest ]

pub filtered_sorted : {K X : Type 0} (R : K → K → Ordering) (test : K × X → Bool) (pairs : List (K × X)) → IsTrue (is_sorted R pairs) → IsTrue (is_sorted R (filter test pairs))
filtered_sorted R test [] up = refl
filtered_sorted R test (e ∷ es) up =
    let parts = both_true (below_all R e.0 es) (is_sorted R es) up in
    let rest = filtered_sorted R test es parts.1 in
    elim (test e) as (λ b. IsTrue (is_sorted R (cond b (e ∷ filter test es) (filter test es)))) [ true ↦ true_both _ _ (below_filtered R test e.0 es parts.0) rest | false ↦ rest ]

-- ---- what is found after a change

module _ {K X : Type 0} (R : K → K → Ordering) (o : IsTotalOrder R) where
  pub find_without : (q k : K) (pairs : List (K × X)) → find R q (without R k pairs) ≡ cond (eq_by_cmp R q k) None (find R q pairs)
  find_without q k pairs =
      find-where_key R (λ x. not (eq_by_cmp R k x)) q (λ x t. ap (λ r. not (is_eq r)) (sym (alike_right o q x k t))) pairs
      ∙ cond_not (eq_by_cmp R k q) (find R q pairs) None
      ∙ ap (λ b. cond b None (find R q pairs)) ((eq_by_cmp_equiv o).symm k q)

  -- the value that a key has already
  pub put_again : ((a b : K) → R a b ≡ Equal → a ≡ b) → (k : K) (v : X) (pairs : List (K × X)) → IsTrue (is_sorted R pairs) → find R k pairs ≡ Some v → put R k v pairs ≡ pairs
  put_again same k v pairs up found =
      same_entries R o same (put R k v pairs) pairs (is_sorted-put R o k v pairs (holds _ up)) (holds _ up) (λ q. find-put R o q k v pairs ∙ by q (R q k) refl)
    where
      by : (q : K) (r : Ordering) → R q k ≡ r → cond (is_eq r) (Some v) (find R q pairs) ≡ find R q pairs
      by q Equal t = sym found ∙ find_tied R o q k t pairs
      by q Less t = refl
      by q Greater t = refl

module _ {K : Type 0} (R : K → K → Ordering) (o : IsTotalOrder R) where
  turned : (a b : K) {r : Ordering} → R a b ≡ r → R b a ≡ ordering_reverse r
  turned a b e = o.antisymm b a ∙ ap ordering_reverse e

module _ {K X : Type 0} (R : K → K → Ordering) (o : IsTotalOrder R) where
  below_at : (k : K) (es : List (K × X)) (i : ℕ) (d : K × X) → IsTrue (below_all R k es) → i < length es → R k ((slice_index_or es i d).0) ≡ Less
  below_at k [] i d h lt = absurd (omega arith)
  below_at k (x ∷ xs) zero d h lt = is_less _ (both_true (is_lt (R k x.0)) (below_all R k xs) h).0
  below_at k (x ∷ xs) (suc i) d h lt = below_at k xs i d (both_true (is_lt (R k x.0)) (below_all R k xs) h).1 (omega arith)

  pub up_tail : (x : K × X) (xs : List (K × X)) → IsTrue (is_sorted R (x ∷ xs)) → IsTrue (is_sorted R xs)
  up_tail x xs up = (both_true (below_all R x.0 xs) (is_sorted R xs) up).1

  pub up_head : (x : K × X) (xs : List (K × X)) → IsTrue (is_sorted R (x ∷ xs)) → IsTrue (below_all R x.0 xs)
  up_head x xs up = (both_true (below_all R x.0 xs) (is_sorted R xs) up).0

  sorted_by : (es : List (K × X)) → IsTrue (is_sorted R es) → IsSortedBy (λ a b. is_lt (R a.0 b.0)) es
  sorted_by [] up k d low high = absurd (omega arith)
  sorted_by (x ∷ []) up k d low high = absurd (omega arith)
  sorted_by (x ∷ y ∷ ys) up zero d low high =
      ap is_lt (turned R o x.0 y.0 (below_at x.0 (y ∷ ys) 0 y (up_head x (y ∷ ys) up) (omega arith)))
  sorted_by (x ∷ y ∷ ys) up (suc k) d low high =
      let e : suc k + 1 ≡ suc (k + 1) = omega arith in
      rw e (sorted_by (y ∷ ys) (up_tail x (y ∷ ys) up) k d (omega arith) (omega arith))

  module _ (k : K) where
    abbrev IsAt : List (K × X) → ℕ → Type 0
    IsAt es i = HoldsAt (λ (e : K × X). R e.0 k ≡ Equal) es i

    -- the pairs before it have lesser keys
    before : (x : K × X) (xs : List (K × X)) (i : ℕ) → IsTrue (is_sorted R (x ∷ xs)) → i < length xs → IsAt (x ∷ xs) (suc i) → R k x.0 ≡ Greater
    before x xs i up lt at =
        let there = slice_index_or xs i x in
        turned R o x.0 k (sym (alike_right o there.0 k x.0 (at x)) ∙ below_at x.0 xs i x (up_head x xs up) lt)

    -- ---- a key that no pair has

    abbrev IsAbsent : List (K × X) → Type 0
    IsAbsent es = (i : ℕ) (d : K × X) → i < length es → eq_by_cmp R k ((slice_index_or es i d).0) ≡ false

    absent_found : (es : List (K × X)) → IsAbsent es → find R k es ≡ None
    absent_found [] h = refl
    absent_found (x ∷ xs) h = ap (λ b. cond b (Some x.1) (find R k xs)) (h zero x (omega arith)) ∙ absent_found xs (λ i d lt. h (suc i) d (omega arith))

    absent_without : (es : List (K × X)) → IsAbsent es → without R k es ≡ es
    absent_without [] h = refl
    absent_without (x ∷ xs) h =
        ap (λ b. cond (not b) (x ∷ without R k xs) (without R k xs)) (h zero x (omega arith))
        ∙ ap (λ (l : List (K × X)). x ∷ l) (absent_without xs (λ i d lt. h (suc i) d (omega arith)))

    gap_absent : (es : List (K × X)) (i : ℕ) → IsTrue (is_sorted R es) → IsPlace R k es (Err i) → IsAbsent es
    gap_absent es i up p j d lt =
        let parts = p.position (searchable_from_sorted o (λ (e : K × X). e.0) es k (sorted_by es up)) in
        elim (cases_lt j i) [
          | inl below ↦ ap is_eq (turned R o _ k (parts.0 j d (omega arith) below))
          | inr above ↦ ap is_eq (turned R o _ k (parts.1 j d above lt))
        ]

    absent_put : (v : X) (es : List (K × X)) (i : ℕ) → i ≤ length es → AllWithin (λ (e : K × X). R e.0 k ≡ Less) es 0 i → AllWithin (λ (e : K × X). R e.0 k ≡ Greater) es i (length es) → put R k v es ≡ insert es i (k, v)
    absent_put v [] zero lt below above = refl
    absent_put v [] (suc i) lt below above = absurd (omega arith)
    absent_put v (x ∷ xs) zero lt below above =
        ap (λ r. by_order r ((k, v) ∷ x ∷ xs) ((x.0, v) ∷ xs) (x ∷ put R k v xs)) (turned R o _ k (above zero x (omega arith) (omega arith)))
    absent_put v (x ∷ xs) (suc i) lt below above =
        ap (λ r. by_order r ((k, v) ∷ x ∷ xs) ((x.0, v) ∷ xs) (x ∷ put R k v xs)) (turned R o _ k (below zero x (omega arith) (omega arith)))
        ∙ ap (λ (l : List (K × X)). x ∷ l) (absent_put v xs i (omega arith) (λ j d low high. below (suc j) d (omega arith) (omega arith)) (λ j d low high. above (suc j) d (omega arith) (omega arith)))

    -- ---- a key that a pair has

    present_found : (es : List (K × X)) (i : ℕ) → IsTrue (is_sorted R es) → i < length es → IsAt es i → find R k es ≡ option_map (λ e. e.1) (slice_get es i)
    present_found [] i up lt at = absurd (omega arith)
    present_found (x ∷ xs) zero up lt at = ap (λ r. cond (is_eq r) (Some x.1) (find R k xs)) (turned R o _ k (at x))
    present_found (x ∷ xs) (suc i) up lt at =
        ap (λ r. cond (is_eq r) (Some x.1) (find R k xs)) (before x xs i up (omega arith) at)
        ∙ present_found xs i (up_tail x xs up) (omega arith) (λ d. at d)

    -- another value at the place of its key
    present_put : (v : X) (es : List (K × X)) (i : ℕ) (d : K × X) → IsTrue (is_sorted R es) → i < length es → IsAt es i → put R k v es ≡ slice_set es i ((slice_index_or es i d).0, v)
    present_put v [] i d up lt at = absurd (omega arith)
    present_put v (x ∷ xs) zero d up lt at =
        ap (λ r. by_order r ((k, v) ∷ x ∷ xs) ((x.0, v) ∷ xs) (x ∷ put R k v xs)) (turned R o _ k (at x))
    present_put v (x ∷ xs) (suc i) d up lt at =
        ap (λ r. by_order r ((k, v) ∷ x ∷ xs) ((x.0, v) ∷ xs) (x ∷ put R k v xs)) (before x xs i up (omega arith) at)
        ∙ ap (λ (l : List (K × X)). x ∷ l) (present_put v xs i d (up_tail x xs up) (omega arith) (λ z. at z))

    -- the pairs after one with this key have greater ones
    above_absent : (x : K × X) (xs : List (K × X)) → IsTrue (below_all R x.0 xs) → R x.0 k ≡ Equal → IsAbsent xs
    above_absent x xs up at i d lt = ap is_eq (sym (o.congr x.0 k _ at) ∙ below_at x.0 xs i d up lt)

    present_without : (es : List (K × X)) (i : ℕ) → IsTrue (is_sorted R es) → i < length es → IsAt es i → without R k es ≡ remove es i
    present_without [] i up lt at = absurd (omega arith)
    present_without (x ∷ xs) zero up lt at =
        ap (λ r. cond (not (is_eq r)) (x ∷ without R k xs) (without R k xs)) (turned R o _ k (at x))
        ∙ absent_without xs (above_absent x xs (up_head x xs up) (at x))
    present_without (x ∷ xs) (suc i) up lt at =
        ap (λ r. cond (not (is_eq r)) (x ∷ without R k xs) (without R k xs)) (before x xs i up (omega arith) at)
        ∙ ap (λ (l : List (K × X)). x ∷ l) (present_without xs i (up_tail x xs up) (omega arith) (λ d. at d))

    -- ---- what is at the place of a key

    -- what is there is what is found for it
    pub found_there : (es : List (K × X)) → IsTrue (is_sorted R es) → (r : Result ℕ ℕ) → IsPlace R k es r → value_there r es ≡ find R k es
    found_there es up (Ok i) p = sym (present_found es i up p.range p.position)
    found_there es up (Err i) p = sym (absent_found es (gap_absent es i up p))

    -- another value there is the one put in
    pub put_there : (v : X) (es : List (K × X)) (i : ℕ) (d : K × X) → IsTrue (is_sorted R es) → IsPlace R k es (Ok i) → slice_set es i ((slice_index_or es i d).0, v) ≡ put R k v es
    put_there v es i d up p = sym (present_put v es i d up p.range p.position)

    pub inserted_there : (v : X) (es : List (K × X)) (i : ℕ) → IsTrue (is_sorted R es) → IsPlace R k es (Err i) → insert es i (k, v) ≡ put R k v es
    inserted_there v es i up p =
        let parts = p.position (searchable_from_sorted o (λ (e : K × X). e.0) es k (sorted_by es up)) in
        sym (absent_put v es i p.range parts.0 parts.1)

    pub removed_there : (es : List (K × X)) (i : ℕ) → IsTrue (is_sorted R es) → IsPlace R k es (Ok i) → remove es i ≡ without R k es
    removed_there es i up p = sym (present_without es i up p.range p.position)

    pub none_removed : (es : List (K × X)) (i : ℕ) → IsTrue (is_sorted R es) → IsPlace R k es (Err i) → es ≡ without R k es
    none_removed es i up p = sym (absent_without es (gap_absent es i up p))

    -- ---- the same, as a search of a list that is the pairs, and a reading there, tell

    pub found_entry : (es searched : List (K × X)) (i : ℕ) (e : K × X) → IsTrue (is_sorted R es) → searched ≡ es → IsPlace R k searched (Ok i) → e ≡ slice_index_or es i e → Some e.1 ≡ find R k es
    found_entry es searched i e up s p is =
        let place = subst (λ l. IsPlace R k l (Ok i)) s p in
        sym (ap (option_map (λ (x : K × X). x.1)) (slice_get_read es (length es) i e refl place.range is)) ∙ found_there es up (Ok i) place

    pub none_found : (es searched : List (K × X)) (i : ℕ) → IsTrue (is_sorted R es) → searched ≡ es → IsPlace R k searched (Err i) → None ≡ find R k es
    none_found es searched i up s p = found_there es up (Err i) (subst (λ l. IsPlace R k l (Err i)) s p)

    pub put_entry : (v : X) (es searched : List (K × X)) (i : ℕ) (e : K × X) → IsTrue (is_sorted R es) → searched ≡ es → IsPlace R k searched (Ok i) → e ≡ slice_index_or es i e → slice_set es i (e.0, v) ≡ put R k v es
    put_entry v es searched i e up s p is =
        ap (λ (x : K × X). slice_set es i (x.0, v)) is ∙ put_there v es i e up (subst (λ l. IsPlace R k l (Ok i)) s p)

    pub inserted_entry : (v : X) (es searched : List (K × X)) (i : ℕ) → IsTrue (is_sorted R es) → searched ≡ es → IsPlace R k searched (Err i) → insert es i (k, v) ≡ put R k v es
    inserted_entry v es searched i up s p = inserted_there v es i up (subst (λ l. IsPlace R k l (Err i)) s p)

    pub removed_entry : (es searched : List (K × X)) (i : ℕ) → IsTrue (is_sorted R es) → searched ≡ es → IsPlace R k searched (Ok i) → remove es i ≡ without R k es
    removed_entry es searched i up s p = removed_there es i up (subst (λ l. IsPlace R k l (Ok i)) s p)

    pub none_to_remove : (es searched : List (K × X)) (i : ℕ) → IsTrue (is_sorted R es) → searched ≡ es → IsPlace R k searched (Err i) → es ≡ without R k es
    none_to_remove es searched i up s p = none_removed es i up (subst (λ l. IsPlace R k l (Err i)) s p)
