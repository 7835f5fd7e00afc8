-- Lists of items in ascending order of their keys: some of them, more of them, and sums over them.
use Rattle.std.specs.Prelude.{◌≡◌, refl, ℕ, zero, suc, Contains, ◌+◌, ◌≤◌, ◌<◌, Bool, true, false, cond, not, ◌⊎◌, IsTrue, List, [], ◌∷◌, ◌++◌, map, filter, sum_by, Option, Some, None, is_some}
use Rattle.std.specs.Prelude.{nat_lt, nat_le, ◌==◌}
use Rattle.std.proofs.Common.{inl, inr, sym, ap, subst, ◌∙◌, arith, true≢false}
use Rattle.std.proofs.lemmas.Bool.{lt-ltb, ltb-true, leb-true}
use Rattle.std.proofs.lemmas.List.Sums.{sum_by-cons}
use Rattle.std.specs.List.{list_all}
use Rattle.std.specs.Ordering.{is_lt, ordering_then}
use Rattle.std.specs.declared.cmp.Ordering.{Ordering}
use Rattle.std.specs.declared.cmp.Ordering.TheVariants.{Less, Equal, Greater}
use Rattle.std.specs.FinMap.{put}
use Rattle.std.specs.FinMap.Entries.{by_order, below_all}
use Rattle.kd_base.specs.ToolsLaws.{both_true, true_both, some_is}
use Rattle.kdcs_types.specs.declared.key.Key.{Key}
use Rattle.kdcs_types.specs.declared.key.Key.TheVariants.{Job as JobKey}
use Rattle.kdcs_types.specs.declared.service.Job.{Job}
use Rattle.kdcs_types.specs.Keys.{key_cmp, key_eq}
use Rattle.kdcs_types.specs.Keyed.{keyed, ascends, item_at, with_item, without_item}
use Rattle.kdcs_types.specs.KeyedLaws.{items_back, item_at_with, item_at_without, ascends_with, ascends_without, same_items, found_key}
use Rattle.kdcs_types.specs.Tables.{job_key}
use Rattle.laws_of_states.specs.ListsLaws.{sum_filter}

-- ---- membership

abbrev pub IsIn : {E : Type 0} → E → List E → Type 0
IsIn e [] = ⊥
IsIn e (x ∷ xs) = (x ≡ e) ⊎ IsIn e xs

module _ {E : Type 0} where
  pub in_passes : (p : E → Bool) (e : E) (xs : List E) → IsTrue (list_all p xs) → IsIn e xs → IsTrue (p e)
  in_passes p e [] h i = absurd i
  in_passes p e (x ∷ xs) h (inl same) = subst (λ y. IsTrue (p y)) same (both_true (p x) (list_all p xs) h).0
  in_passes p e (x ∷ xs) h (inr later) = in_passes p e xs (both_true (p x) (list_all p xs) h).1 later

  pub in_filter : (q : E → Bool) (e : E) (xs : List E) → IsIn e (filter q xs) → IsIn e xs
  in_filter q e [] i = i
  in_filter q e (x ∷ xs) i = by (q x) (in_filter q e xs) i
    where
      by : (b : Bool) → (IsIn e (filter q xs) → IsIn e xs) → IsIn e (cond b (x ∷ filter q xs) (filter q xs)) → IsIn e (x ∷ xs)
      by true rest (inl same) = inl same
      by true rest (inr later) = inr (rest later)
      by false rest later = inr (rest later)

module _ {E : Type 0} (key_of : E → Key) where
  -- ---- some of the items

  below_filter : (k : Key) (q : E → Bool) (es : List E) → IsTrue (below_all key_cmp k (keyed key_of es)) → IsTrue (below_all key_cmp k (keyed key_of (filter q es)))
  below_filter k q [] h = refl
  below_filter k q (e ∷ es) h =
      let parts = both_true (is_lt (key_cmp k (key_of e))) (below_all key_cmp k (keyed key_of es)) h in
      by (q e) parts.0 (below_filter k q es parts.1)
    where
      by : (b : Bool) → IsTrue (is_lt (key_cmp k (key_of e))) → IsTrue (below_all key_cmp k (keyed key_of (filter q es))) → IsTrue (below_all key_cmp k (keyed key_of (cond b (e ∷ filter q es) (filter q es))))
      by true first rest = true_both (is_lt (key_cmp k (key_of e))) (below_all key_cmp k (keyed key_of (filter q es))) first rest
      by false first rest = rest

  pub ascends_filter : (q : E → Bool) (es : List E) → IsTrue (ascends key_of es) → IsTrue (ascends key_of (filter q es))
  ascends_filter q [] h = refl
  ascends_filter q (e ∷ es) h =
      let parts = both_true (below_all key_cmp (key_of e) (keyed key_of es)) (ascends key_of es) h in
      by (q e) (below_filter (key_of e) q es parts.0) (ascends_filter q es parts.1)
    where
      by : (b : Bool) → IsTrue (below_all key_cmp (key_of e) (keyed key_of (filter q es))) → IsTrue (ascends key_of (filter q es)) → IsTrue (ascends key_of (cond b (e ∷ filter q es) (filter q es)))
      by true below rest = true_both (below_all key_cmp (key_of e) (keyed key_of (filter q es))) (ascends key_of (filter q es)) below rest
      by false below rest = rest

  -- what is not there is not among some of them
  pub none_filter : (k : Key) (q : E → Bool) (es : List E) → IsTrue (not (is_some (item_at key_of k es))) → IsTrue (not (is_some (item_at key_of k (filter q es))))
  none_filter k q [] h = h
  none_filter k q (e ∷ es) h = by (key_eq k (key_of e)) refl (q e) h (none_filter k q es)
    where
      by : (a : Bool) → key_eq k (key_of e) ≡ a → (b : Bool) → IsTrue (not (is_some (cond a (Some e) (item_at key_of k es))))
          → (IsTrue (not (is_some (item_at key_of k es))) → IsTrue (not (is_some (item_at key_of k (filter q es)))))
          → IsTrue (not (is_some (item_at key_of k (cond b (e ∷ filter q es) (filter q es)))))
      by true is b none rest = absurd (true≢false (sym none))
      by false is true none rest = ap (λ c. not (is_some (cond c (Some e) (item_at key_of k (filter q es))))) is ∙ rest none
      by false is false none rest = rest none

  -- ---- more items

  below_append : (k : Key) (xs ys : List E) → IsTrue (below_all key_cmp k (keyed key_of xs)) → IsTrue (below_all key_cmp k (keyed key_of ys)) → IsTrue (below_all key_cmp k (keyed key_of (xs ++ ys)))
  below_append k [] ys h more = more
  below_append k (x ∷ xs) ys h more =
      let parts = both_true (is_lt (key_cmp k (key_of x))) (below_all key_cmp k (keyed key_of xs)) h in
      true_both (is_lt (key_cmp k (key_of x))) (below_all key_cmp k (keyed key_of (xs ++ ys))) parts.0 (below_append k xs ys parts.1 more)

  -- ---- sums

  pub sum_with : (f : E → ℕ) (e : E) (es : List E) → sum_by f (with_item key_of e es) ≤ f e + sum_by f es
  sum_with f e [] = omega (arith, sum_by-cons f e [])
  sum_with f e (x ∷ xs) = by (key_cmp (key_of e) (key_of x)) (sum_with f e xs)
    where
      rest : map (λ p. p.1) (keyed key_of xs) ≡ xs
      rest = items_back key_of xs

      by : (o : Ordering) → sum_by f (with_item key_of e xs) ≤ f e + sum_by f xs
          → sum_by f (map (λ p. p.1) (by_order o ((key_of e, e) ∷ (key_of x, x) ∷ keyed key_of xs) ((key_of x, e) ∷ keyed key_of xs) ((key_of x, x) ∷ put key_cmp (key_of e) e (keyed key_of xs)))) ≤ f e + sum_by f (x ∷ xs)
      by Less h = subst (λ (l : List E). sum_by f (e ∷ x ∷ l) ≤ f e + sum_by f (x ∷ xs)) (sym rest) (omega (arith, sum_by-cons f e (x ∷ xs)))
      by Equal h = subst (λ (l : List E). sum_by f (e ∷ l) ≤ f e + sum_by f (x ∷ xs)) (sym rest) (omega (arith, sum_by-cons f e xs, sum_by-cons f x xs))
      by Greater h = omega (arith, h, sum_by-cons f x (with_item key_of e xs), sum_by-cons f x xs)

  pub sum_without : (f : E → ℕ) (k : Key) (e : E) (es : List E) → IsTrue (key_eq k (key_of e)) → IsIn e es → f e + sum_by f (without_item key_of k es) ≤ sum_by f es
  sum_without f k e [] is i = absurd i
  sum_without f k e (x ∷ xs) is (inl same) = by (key_eq k (key_of x)) (subst (λ (y : E). IsTrue (key_eq k (key_of y))) (sym same) is) (smaller xs)
    where
      smaller : (l : List E) → sum_by f (without_item key_of k l) ≤ sum_by f l
      smaller l = sum_filter f (λ y. not (key_eq k (key_of y))) l

      by : (b : Bool) → b ≡ true → sum_by f (without_item key_of k xs) ≤ sum_by f xs → f e + sum_by f (cond (not b) (x ∷ without_item key_of k xs) (without_item key_of k xs)) ≤ sum_by f (x ∷ xs)
      by true t h = omega (arith, h, sum_by-cons f x xs, ap f same)
      by false t h = absurd (true≢false (sym t))
  sum_without f k e (x ∷ xs) is (inr later) = by (not (key_eq k (key_of x))) (sum_without f k e xs is later)
    where
      by : (b : Bool) → f e + sum_by f (without_item key_of k xs) ≤ sum_by f xs → f e + sum_by f (cond b (x ∷ without_item key_of k xs) (without_item key_of k xs)) ≤ sum_by f (x ∷ xs)
      by true h = omega (arith, h, sum_by-cons f x (without_item key_of k xs), sum_by-cons f x xs)
      by false h = omega (arith, h, sum_by-cons f x xs)

  -- an item in place of another of its key
  with_and_without : (e : E) (es : List E) → IsTrue (ascends key_of es) → with_item key_of e es ≡ with_item key_of e (without_item key_of (key_of e) es)
  with_and_without e es up =
      same_items key_of _ _ (ascends_with key_of e es up) (ascends_with key_of e _ (ascends_without key_of (key_of e) es up)) (λ q.
      item_at_with key_of q e es
      ∙ one (key_eq q (key_of e)) (item_at key_of q es)
      ∙ ap (λ (o : Option E). cond (key_eq q (key_of e)) (Some e) o) (sym (item_at_without key_of q (key_of e) es))
      ∙ sym (item_at_with key_of q e (without_item key_of (key_of e) es)))
    where
      one : (b : Bool) (o : Option E) → cond b (Some e) o ≡ cond b (Some e) (cond b None o)
      one true o = refl
      one false o = refl

  pub sum_changed : (f : E → ℕ) (e x : E) (es : List E) → IsTrue (ascends key_of es) → IsTrue (key_eq (key_of e) (key_of x)) → IsIn x es → f e ≡ f x → sum_by f (with_item key_of e es) ≤ sum_by f es
  sum_changed f e x es up is there same =
      let more : sum_by f (with_item key_of e es) ≤ f e + sum_by f (without_item key_of (key_of e) es) =
      subst (λ (l : List E). sum_by f l ≤ f e + sum_by f (without_item key_of (key_of e) es)) (sym (with_and_without e es up)) (sum_with f e (without_item key_of (key_of e) es)) in
      omega (arith, more, sum_without f (key_of e) x es is there, same)

  -- what is found is in the list
  pub found_in : (k : Key) (es : List E) (x : E) → item_at key_of k es ≡ Some x → IsIn x es
  found_in k [] x e = absurd cc
  found_in k (y ∷ ys) x e = by (key_eq k (key_of y)) e (found_in k ys x)
    where
      by : (b : Bool) → cond b (Some y) (item_at key_of k ys) ≡ Some x → (item_at key_of k ys ≡ Some x → IsIn x ys) → IsIn x (y ∷ ys)
      by true is rest = inl (some_is y x is)
      by false is rest = inr (rest is)

-- ---- jobs by their numbers

pub job_less : (a b : ℕ) → a < b → IsTrue (is_lt (key_cmp (JobKey a) (JobKey b)))
job_less a b h = ap (λ c. is_lt (ordering_then (ordering_then (cond c Less (cond (a == b) Equal Greater)) Equal) Equal)) (lt-ltb a b h)

below_jobs : (k n : ℕ) → k < n → (ys : List Job) → IsTrue (list_all (λ (j : Job). nat_le n j.number) ys) → IsTrue (below_all key_cmp (JobKey k) (keyed job_key ys))
below_jobs k n lt [] h = refl
below_jobs k n lt (y ∷ ys) h =
    let parts = both_true (nat_le n y.number) (list_all (λ (j : Job). nat_le n j.number) ys) h in
    true_both (is_lt (key_cmp (JobKey k) (job_key y))) (below_all key_cmp (JobKey k) (keyed job_key ys))
    (job_less k y.number (omega (arith, lt, leb-true n y.number parts.0))) (below_jobs k n lt ys parts.1)

pub ascends_behind : (job : Job) (ys : List Job) → IsTrue (list_all (λ (j : Job). nat_le (job.number + 1) j.number) ys) → IsTrue (ascends job_key ys) → IsTrue (ascends job_key (job ∷ ys))
ascends_behind job ys h up = true_both (below_all key_cmp (job_key job) (keyed job_key ys)) (ascends job_key ys) (below_jobs job.number (job.number + 1) (omega arith) ys h) up

pub ascends_append : (n : ℕ) (xs ys : List Job) → IsTrue (ascends job_key xs) → IsTrue (ascends job_key ys) → IsTrue (list_all (λ (j : Job). nat_lt j.number n) xs) → IsTrue (list_all (λ (j : Job). nat_le n j.number) ys) → IsTrue (ascends job_key (xs ++ ys))
ascends_append n [] ys up more low high = more
ascends_append n (x ∷ xs) ys up more low high =
    let a = both_true (below_all key_cmp (job_key x) (keyed job_key xs)) (ascends job_key xs) up in
    let b = both_true (nat_lt x.number n) (list_all (λ (j : Job). nat_lt j.number n) xs) low in
    true_both (below_all key_cmp (job_key x) (keyed job_key (xs ++ ys))) (ascends job_key (xs ++ ys))
    (below_append job_key (job_key x) xs ys a.0 (below_jobs x.number n (ltb-true x.number n b.0) ys high))
    (ascends_append n xs ys a.1 more b.1 high)

-- ---- what is in a list

contains_later : {E : Type 0} (x e : E) (xs : List E) → Contains xs e → Contains (x ∷ xs) e
contains_later x e xs c = let lt = c.1 in (suc c.0, omega arith, c.2)

pub contains : {E : Type 0} (e : E) (xs : List E) → IsIn e xs → Contains xs e
contains e [] i = absurd i
contains e (x ∷ xs) (inl same) = (zero, omega arith, same)
contains e (x ∷ xs) (inr later) = contains_later x e xs (contains e xs later)

-- ---- jobs

-- a job is under its number
pub job_number : (number : ℕ) (jobs : List Job) (j : Job) → item_at job_key (JobKey number) jobs ≡ Some j → j.number ≡ number
job_number number jobs j found = by j.number (found_key job_key (JobKey number) jobs j found)
  where
    by : (n : ℕ) → JobKey n ≡ JobKey number → n ≡ number
    by n e = cc
