-- Lists of entries in order, and tests and sums over lists.
use Rattle.std.specs.Prelude.{◌≡◌, refl, ℕ, ◌+◌, ◌≤◌, Bool, true, false, cond, ◌||◌, not, IsTrue, List, [], ◌∷◌, ◌++◌, length, filter, sum_by, count_by, Some, is_some, bytes_eq}
use Rattle.std.proofs.Common.{sym, ap, subst, ◌∙◌, arith, true≢false}
use Rattle.std.proofs.lemmas.List.Sums.{sum_by-cons}
use Rattle.std.proofs.lemmas.List.Folds.{list_all-append, list_any-append}
use Rattle.std.specs.List.{list_all, list_any}
use Rattle.std.specs.Ordering.{eq_by_cmp}
use Rattle.std.specs.declared.cmp.Ordering.{Ordering}
use Rattle.std.specs.declared.cmp.Ordering.TheVariants.{Less, Equal, Greater}
use Rattle.std.specs.Cmp.{IsTotalOrder}
use Rattle.std.specs.Cmp.Lexicographic.{bytes_decides}
use Rattle.std.specs.FinMap.{find, put, is_sorted, IsAntisymmetric}
use Rattle.std.specs.FinMap.Entries.{by_order, where_key, is_sorted-where_key, length-put}
use Rattle.kd_base.specs.ToolsLaws.{both_true, true_both, some_is}
use Rattle.kd_base.specs.OrderLaws.{holds, is_true}

pub not_true : (b : Bool) → b ≡ true → b ≡ false → ⊥
not_true b h k = true≢false (sym h ∙ k)

pub bytes_eq_itself : (a : List ℕ) → bytes_eq a a ≡ true
bytes_eq_itself a = (bytes_decides a a).1 refl

-- ---- tests over lists

module _ {X : Type 0} where
  pub all_imply : (p q : X → Bool) → ((x : X) → IsTrue (p x) → IsTrue (q x)) → (xs : List X) → IsTrue (list_all p xs) → IsTrue (list_all q xs)
  all_imply p q imply [] h = refl
  all_imply p q imply (x ∷ xs) h = let parts = both_true (p x) (list_all p xs) h in true_both (q x) (list_all q xs) (imply x parts.0) (all_imply p q imply xs parts.1)

  pub all_both : (p q r : X → Bool) → ((x : X) → IsTrue (p x) → IsTrue (q x) → IsTrue (r x)) → (xs : List X) → IsTrue (list_all p xs) → IsTrue (list_all q xs) → IsTrue (list_all r xs)
  all_both p q r imply [] h k = refl
  all_both p q r imply (x ∷ xs) h k =
      let a = both_true (p x) (list_all p xs) h in
      let b = both_true (q x) (list_all q xs) k in
      true_both (r x) (list_all r xs) (imply x a.0 b.0) (all_both p q r imply xs a.1 b.1)

  pub all_filter : (p q : X → Bool) (xs : List X) → IsTrue (list_all p xs) → IsTrue (list_all p (filter q xs))
  all_filter p q [] h = refl
  all_filter p q (x ∷ xs) h = let parts = both_true (p x) (list_all p xs) h in by (q x) parts.0 (all_filter p q xs parts.1)
    where
      by : (b : Bool) → IsTrue (p x) → IsTrue (list_all p (filter q xs)) → IsTrue (list_all p (cond b (x ∷ filter q xs) (filter q xs)))
      by true first rest = true_both (p x) (list_all p (filter q xs)) first rest
      by false first rest = rest

  pub filter_passes : (q : X → Bool) (xs : List X) → IsTrue (list_all q (filter q xs))
  filter_passes q [] = refl
  filter_passes q (x ∷ xs) = by (q x) refl (filter_passes q xs)
    where
      by : (b : Bool) → q x ≡ b → IsTrue (list_all q (filter q xs)) → IsTrue (list_all q (cond b (x ∷ filter q xs) (filter q xs)))
      by true e rest = true_both (q x) (list_all q (filter q xs)) e rest
      by false e rest = rest

  pub all_append : (p : X → Bool) (xs ys : List X) → IsTrue (list_all p xs) → IsTrue (list_all p ys) → IsTrue (list_all p (xs ++ ys))
  all_append p xs ys h k = list_all-append p xs ys ∙ true_both (list_all p xs) (list_all p ys) h k

  pub any_append : (p : X → Bool) (xs ys : List X) → IsTrue (list_any p xs) → IsTrue (list_any p (xs ++ ys))
  any_append p xs ys h = list_any-append p xs ys ∙ ap (λ b. b || list_any p ys) h

  pub any_last : (p : X → Bool) (xs : List X) (y : X) → IsTrue (p y) → IsTrue (list_any p (xs ++ y ∷ []))
  any_last p xs y h = list_any-append p xs (y ∷ []) ∙ by (list_any p xs) (p y) h
    where
      by : (a b : Bool) → b ≡ true → (a || (b || false)) ≡ true
      by true b e = refl
      by false true e = refl
      by false false e = e

  pub any_filter : (p q : X → Bool) → ((x : X) → IsTrue (p x) → IsTrue (q x)) → (xs : List X) → IsTrue (list_any p xs) → IsTrue (list_any p (filter q xs))
  any_filter p q imply [] h = h
  any_filter p q imply (x ∷ xs) h = by (p x) (q x) refl refl (any_filter p q imply xs) h
    where
      later : (b : Bool) → IsTrue (list_any p (filter q xs)) → IsTrue (list_any p (cond b (x ∷ filter q xs) (filter q xs)))
      later true t = or_right (p x) (list_any p (filter q xs)) t
        where
          or_right : (a b : Bool) → b ≡ true → (a || b) ≡ true
          or_right true b e = refl
          or_right false b e = e
      later false t = t

      by : (a b : Bool) → p x ≡ a → q x ≡ b → (IsTrue (list_any p xs) → IsTrue (list_any p (filter q xs))) → IsTrue (a || list_any p xs) → IsTrue (list_any p (cond b (x ∷ filter q xs) (filter q xs)))
      by true true e f rest t = ap (λ c. c || list_any p (filter q xs)) e
      by true false e f rest t = absurd (not_true (q x) (imply x e) f)
      by false b e f rest t = later b (rest t)

-- ---- lengths and sums

module _ {X : Type 0} where
  pub length_filter : (q : X → Bool) (xs : List X) → length (filter q xs) ≤ length xs
  length_filter q [] = omega arith
  length_filter q (x ∷ xs) = by (q x) (length_filter q xs)
    where
      by : (b : Bool) → length (filter q xs) ≤ length xs → length (cond b (x ∷ filter q xs) (filter q xs)) ≤ length (x ∷ xs)
      by true h = omega arith
      by false h = omega arith

  pub sum_filter : (f : X → ℕ) (q : X → Bool) (xs : List X) → sum_by f (filter q xs) ≤ sum_by f xs
  sum_filter f q [] = omega arith
  sum_filter f q (x ∷ xs) = by (q x) (sum_filter f q xs)
    where
      by : (b : Bool) → sum_by f (filter q xs) ≤ sum_by f xs → sum_by f (cond b (x ∷ filter q xs) (filter q xs)) ≤ sum_by f (x ∷ xs)
      by true h = omega (arith, sum_by-cons f x (filter q xs), sum_by-cons f x xs)
      by false h = omega (arith, sum_by-cons f x xs)

-- none passes
module _ {X : Type 0} where
  pub count_none : (p : X → Bool) (xs : List X) → list_any p xs ≡ false → count_by p xs ≡ 0
  count_none p [] h = refl
  count_none p (x ∷ xs) h = by (p x) refl (count_none p xs) h
    where
      by : (b : Bool) → p x ≡ b → (list_any p xs ≡ false → count_by p xs ≡ 0) → (b || list_any p xs) ≡ false → count_by p (x ∷ xs) ≡ 0
      by true e rest no_one = absurd (true≢false no_one)
      by false e rest no_one = sum_by-cons (λ y. cond (p y) 1 0) x xs ∙ omega (arith, ap {B = ℕ} (λ c. cond c 1 0) e, rest no_one)

-- ---- entries in order

module _ {K V : Type 0} (R : K → K → Ordering) where
  pub found_passes : (p : K × V → Bool) (q : K) (es : List (K × V)) (v : V) → IsTrue (list_all p es) → find R q es ≡ Some v → (k : K) × IsTrue (p (k, v))
  found_passes p q [] v all e = absurd cc
  found_passes p q (f ∷ es) v all e = let parts = both_true (p f) (list_all p es) all in by (eq_by_cmp R q f.0) parts.0 (found_passes p q es v parts.1) e
    where
      by : (b : Bool) → IsTrue (p f) → (find R q es ≡ Some v → (k : K) × IsTrue (p (k, v))) → cond b (Some f.1) (find R q es) ≡ Some v → (k : K) × IsTrue (p (k, v))
      by true first rest is = (f.0, subst (λ w. IsTrue (p (f.0, w))) (some_is f.1 v is) first)
      by false first rest is = rest is

  pub missing_apart : (q : K) (es : List (K × V)) → is_some (find R q es) ≡ false → IsTrue (list_all (λ (e : K × V). not (eq_by_cmp R q e.0)) es)
  missing_apart q [] h = refl
  missing_apart q (f ∷ es) h = by (eq_by_cmp R q f.0) refl (missing_apart q es) h
    where
      by : (b : Bool) → eq_by_cmp R q f.0 ≡ b → (is_some (find R q es) ≡ false → IsTrue (list_all (λ (e : K × V). not (eq_by_cmp R q e.0)) es)) → is_some (cond b (Some f.1) (find R q es)) ≡ false → IsTrue (list_all (λ (e : K × V). not (eq_by_cmp R q e.0)) (f ∷ es))
      by true e rest is = absurd (true≢false is)
      by false e rest is = true_both (not (eq_by_cmp R q f.0)) (list_all (λ (g : K × V). not (eq_by_cmp R q g.0)) es) (ap not e) (rest is)

  pub all_put : IsAntisymmetric R → (p : K × V → Bool) (k : K) (v : V) (es : List (K × V)) → IsTrue (p (k, v)) → IsTrue (list_all p es) → IsTrue (list_all p (put R k v es))
  all_put same p k v [] h all = true_both (p (k, v)) true h refl
  all_put same p k v (e ∷ es) h all = let parts = both_true (p e) (list_all p es) all in by (R k e.0) refl parts.0 parts.1 (all_put same p k v es h parts.1)
    where
      by : (o : Ordering) → R k e.0 ≡ o → IsTrue (p e) → IsTrue (list_all p es) → IsTrue (list_all p (put R k v es)) → IsTrue (list_all p (by_order o ((k, v) ∷ e ∷ es) ((e.0, v) ∷ es) (e ∷ put R k v es)))
      by Less is one rest more = true_both (p (k, v)) (list_all p (e ∷ es)) h all
      by Equal is one rest more = true_both (p (e.0, v)) (list_all p es) (subst (λ j. IsTrue (p (j, v))) (same k e.0 is) h) rest
      by Greater is one rest more = true_both (p e) (list_all p (put R k v es)) one more

  pub sorted_where : (p : K → Bool) (es : List (K × V)) → IsTrue (is_sorted R es) → IsTrue (is_sorted R (where_key R p es))
  sorted_where p es h = is_true (is_sorted R (where_key R p es)) (is_sorted-where_key R p es (holds (is_sorted R es) h))

  pub length_put : IsTotalOrder R → (k : K) (v : V) (es : List (K × V)) → IsTrue (is_sorted R es) → length (put R k v es) ≡ cond (is_some (find R k es)) (length es) (length es + 1)
  length_put total k v es h = length-put R total k v es (holds (is_sorted R es) h)
