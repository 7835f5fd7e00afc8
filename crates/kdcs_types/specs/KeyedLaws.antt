-- What look-ups find in lists of items in ascending order, after an item was put in or taken out.
use Rattle.std.specs.Prelude.{◌≡◌, refl, Bool, true, false, cond, not, IsTrue, List, [], ◌∷◌, map, Some, None, is_some}
use Rattle.std.proofs.Common.{sym, ap, subst, ◌∙◌}
use Rattle.std.specs.List.{list_all, list_any}
use Rattle.std.specs.Ordering.{is_eq, is_lt}
use Rattle.std.specs.declared.cmp.Ordering.TheVariants.{Less, Equal, Greater}
use Rattle.std.specs.Cmp.{eq_by_cmp_equiv}
use Rattle.std.specs.FinMap.{find, put, is_sorted}
use Rattle.std.specs.FinMap.Entries.{by_order, below_all, where_key, find-put, find-where_key, is_sorted-put, is_sorted-where_key, is_some-find, same_entries}
use Rattle.kd_base.specs.ToolsLaws.{both_true, true_both, cond_not}
use Rattle.kdcs_types.specs.declared.key.Key.{Key}
use Rattle.kdcs_types.specs.Keys.{key_cmp, key_eq}
use Rattle.kdcs_types.specs.Keyed.{keyed, ascends, item_at, with_item, without_item}
use Rattle.kdcs_types.specs.KeyLaws.{key_total, same_key, key_eq_same}
use Rattle.kd_base.specs.OrderLaws.{is_less, holds, is_true}

module _ {E : Type 0} (key_of : E → Key) where
  pub items_back : (es : List E) → map (λ p. p.1) (keyed key_of es) ≡ es
  items_back [] = refl
  items_back (x ∷ xs) = ap (λ (l : List E). x ∷ l) (items_back xs)

  keys_back : (es : List E) → map (λ p. p.0) (keyed key_of es) ≡ map key_of es
  keys_back [] = refl
  keys_back (x ∷ xs) = ap (λ (l : List Key). key_of x ∷ l) (keys_back xs)

  pub keyed_with : (e : E) (es : List E) → keyed key_of (with_item key_of e es) ≡ put key_cmp (key_of e) e (keyed key_of es)
  keyed_with e [] = refl
  keyed_with e (x ∷ xs) =
      elim (key_cmp (key_of e) (key_of x)) as (λ r. key_cmp (key_of e) (key_of x) ≡ r
      → keyed key_of (map (λ p. p.1) (by_order r ((key_of e, e) ∷ (key_of x, x) ∷ keyed key_of xs) ((key_of x, e) ∷ keyed key_of xs) ((key_of x, x) ∷ put key_cmp (key_of e) e (keyed key_of xs))))
      ≡ by_order r ((key_of e, e) ∷ (key_of x, x) ∷ keyed key_of xs) ((key_of x, e) ∷ keyed key_of xs) ((key_of x, x) ∷ put key_cmp (key_of e) e (keyed key_of xs))) [
        | Less ↦ λ p. ap (λ (l : List E). (key_of e, e) ∷ (key_of x, x) ∷ keyed key_of l) (items_back xs)
        | Equal ↦ λ p i. (same_key (key_of e) (key_of x) p i, e) ∷ keyed key_of (items_back xs i)
        | Greater ↦ λ p. ap (λ (l : List (Key × E)). (key_of x, x) ∷ l) (keyed_with e xs)
      ] refl

  pub keyed_without : (k : Key) (es : List E) → keyed key_of (without_item key_of k es) ≡ where_key key_cmp (λ x. not (key_eq k x)) (keyed key_of es)
  keyed_without k [] = refl
  keyed_without k (x ∷ xs) =
      elim (not (key_eq k (key_of x))) as (λ b. keyed key_of (cond b (x ∷ without_item key_of k xs) (without_item key_of k xs)) ≡ cond b ((key_of x, x) ∷ where_key key_cmp (λ y. not (key_eq k y)) (keyed key_of xs)) (where_key key_cmp (λ y. not (key_eq k y)) (keyed key_of xs))) [
        | true ↦ ap (λ (l : List (Key × E)). (key_of x, x) ∷ l) (keyed_without k xs)
        | false ↦ keyed_without k xs
      ]

  -- what is found after a change
  pub item_at_with : (q : Key) (e : E) (es : List E) → item_at key_of q (with_item key_of e es) ≡ cond (key_eq q (key_of e)) (Some e) (item_at key_of q es)
  item_at_with q e es = ap (find key_cmp q) (keyed_with e es) ∙ find-put key_cmp key_total q (key_of e) e (keyed key_of es)

  pub item_at_without : (q k : Key) (es : List E) → item_at key_of q (without_item key_of k es) ≡ cond (key_eq q k) None (item_at key_of q es)
  item_at_without q k es =
      ap (find key_cmp q) (keyed_without k es)
      ∙ find-where_key key_cmp (λ x. not (key_eq k x)) q (λ x e. ap (λ y. not (key_eq k y)) (sym (same_key q x e))) (keyed key_of es)
      ∙ cond_not (key_eq k q) (item_at key_of q es) None
      ∙ ap (λ b. cond b None (item_at key_of q es)) ((eq_by_cmp_equiv key_total).symm k q)

  -- the order stays
  pub ascends_with : (e : E) (es : List E) → IsTrue (ascends key_of es) → IsTrue (ascends key_of (with_item key_of e es))
  ascends_with e es h = ap (is_sorted key_cmp) (keyed_with e es) ∙ is_true _ (is_sorted-put key_cmp key_total (key_of e) e (keyed key_of es) (holds _ h))

  pub ascends_without : (k : Key) (es : List E) → IsTrue (ascends key_of es) → IsTrue (ascends key_of (without_item key_of k es))
  ascends_without k es h = ap (is_sorted key_cmp) (keyed_without k es) ∙ is_true _ (is_sorted-where_key key_cmp (λ x. not (key_eq k x)) (keyed key_of es) (holds _ h))

  -- and so does what holds of each item
  pub all_with : (p : E → Bool) (e : E) (es : List E) → IsTrue (p e) → IsTrue (list_all p es) → IsTrue (list_all p (with_item key_of e es))
  all_with p e [] a h = true_both _ _ a refl
  all_with p e (x ∷ xs) a h =
      let parts = both_true (p x) (list_all p xs) h in
      elim (key_cmp (key_of e) (key_of x)) as (λ r. IsTrue (list_all p (map (λ q. q.1) (by_order r ((key_of e, e) ∷ (key_of x, x) ∷ keyed key_of xs) ((key_of x, e) ∷ keyed key_of xs) ((key_of x, x) ∷ put key_cmp (key_of e) e (keyed key_of xs)))))) [
        | Less ↦ true_both _ _ a (ap (λ (l : List E). list_all p (x ∷ l)) (items_back xs) ∙ h)
        | Equal ↦ true_both _ _ a (ap (list_all p) (items_back xs) ∙ parts.1)
        | Greater ↦ true_both _ _ parts.0 (all_with p e xs a parts.1)
      ]

  pub all_without : (p : E → Bool) (k : Key) (es : List E) → IsTrue (list_all p es) → IsTrue (list_all p (without_item key_of k es))
  all_without p k [] h = refl
  all_without p k (x ∷ xs) h =
      let parts = both_true (p x) (list_all p xs) h in
      elim (not (key_eq k (key_of x))) as (λ b. IsTrue (list_all p (cond b (x ∷ without_item key_of k xs) (without_item key_of k xs)))) [
        | true ↦ true_both _ _ parts.0 (all_without p k xs parts.1)
        | false ↦ all_without p k xs parts.1
      ]

  -- nothing is found among greater keys, nor among keys of which none is this one
  pub not_above : (q : Key) (es : List (Key × E)) → IsTrue (below_all key_cmp q es) → find key_cmp q es ≡ None
  not_above q [] h = refl
  not_above q (e ∷ es) h =
      let parts = both_true (is_lt (key_cmp q e.0)) (below_all key_cmp q es) h in
      ap (λ r. cond (is_eq r) (Some e.1) (find key_cmp q es)) (is_less _ parts.0) ∙ not_above q es parts.1

  pub not_among : (q : Key) → ((e : E) → key_eq q (key_of e) ≡ false) → (es : List E) → item_at key_of q es ≡ None
  not_among q apart [] = refl
  not_among q apart (x ∷ xs) = ap (λ b. cond b (Some x) (item_at key_of q xs)) (apart x) ∙ not_among q apart xs

  -- what is found has the key, and passes what all pass
  pub found_key : (q : Key) (es : List E) (x : E) → item_at key_of q es ≡ Some x → key_of x ≡ q
  found_key q [] x h = absurd cc
  found_key q (e ∷ es) x h =
      elim (key_eq q (key_of e)) as (λ b. key_eq q (key_of e) ≡ b → cond b (Some e) (item_at key_of q es) ≡ Some x → key_of x ≡ q) [
        | true ↦ λ t is. ap key_of (sym (some_same e x is)) ∙ sym (key_eq_same q (key_of e) t)
        | false ↦ λ t is. found_key q es x is
      ] refl h
    where
      some_same : (a b : E) → Some a ≡ Some b → a ≡ b
      some_same a b s = cc

  pub found_passes : (p : E → Bool) (q : Key) (es : List E) (x : E) → IsTrue (list_all p es) → item_at key_of q es ≡ Some x → IsTrue (p x)
  found_passes p q [] x a h = absurd cc
  found_passes p q (e ∷ es) x a h =
      let parts = both_true (p e) (list_all p es) a in
      elim (key_eq q (key_of e)) as (λ b. cond b (Some e) (item_at key_of q es) ≡ Some x → IsTrue (p x)) [
        | true ↦ λ is. subst (λ y. IsTrue (p y)) (some_same e x is) parts.0
        | false ↦ λ is. found_passes p q es x parts.1 is
      ] h
    where
      some_same : (a b : E) → Some a ≡ Some b → a ≡ b
      some_same a b s = cc

  pub found_among : (q : Key) (es : List E) → IsTrue (is_some (item_at key_of q es)) → IsTrue (list_any (key_eq q) (map key_of es))
  found_among q es h = ap (list_any (key_eq q)) (sym (keys_back es)) ∙ sym (is_some-find key_cmp q (keyed key_of es)) ∙ h

  -- lists in order in which the same is found are the same
  pub same_items : (es fs : List E) → IsTrue (ascends key_of es) → IsTrue (ascends key_of fs) → ((q : Key) → item_at key_of q es ≡ item_at key_of q fs) → es ≡ fs
  same_items es fs g h is = sym (items_back es) ∙ ap (map (λ p. p.1)) (same_entries key_cmp key_total same_key (keyed key_of es) (keyed key_of fs) (holds _ g) (holds _ h) is) ∙ items_back fs
