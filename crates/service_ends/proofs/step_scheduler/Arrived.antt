-- The ready services in the order of the numbers of their arrivals: which is the first that passes a test, and what a service
-- that comes or goes makes of the list.
use Rattle.std.specs.Prelude.{◌≡◌, refl, ◌<◌, ◌≤◌, ◌≢◌, ◌+◌, ◌-◌, ℕ, suc, Bool, true, false, cond, not, ◌||◌, IsTrue, List, [], ◌∷◌, ◌++◌, length, filter, Option, None, Some, is_some, slice_get}
use Rattle.std.proofs.Common.{ap, sym, subst, ◌∙◌, arith, true≢false, inl, inr}
use Rattle.std.specs.Prelude.{find as first}
use Rattle.std.specs.List.{list_any}
use Rattle.std.specs.Map.{lookup, remove_entry, values_of}
use Rattle.std.specs.BTreeMap.{is_at}
use Rattle.std.specs.Ordering.{is_eq, is_lt, eq_by_cmp, nat_cmp, ordering_reverse}
use Rattle.std.specs.declared.cmp.Ordering.TheVariants.{Less, Greater}
use Rattle.std.specs.Cmp.{Equal-is, nat_cmp_total, ranked, tied_itself}
use Rattle.std.specs.FinMap.{find, is_sorted, nat_cmp-IsAntisymmetric, put}
use Rattle.std.specs.FinMap.Entries.{below_all, by_order}
use Rattle.std.proofs.lemmas.Bool.{cases_lt}
use Rattle.std.proofs.lemmas.List.{append_assoc, length-append, map-append}
use Rattle.std.proofs.lemmas.List.Elements.{All-cons, All-head, All-nil, All-push, All-tail, All-weaker}
use Rattle.std.proofs.lemmas.Option.{slice_get-get_or}
use Rattle.kd_base.specs.ToolsLaws.{both_true, some_is}
use Rattle.kd_base.specs.OrderLaws.{greater_is, is_less}
use Rattle.kd_base.specs.Places.{without}
use Rattle.kd_base.specs.TreeLaws.{same_find, same_left}
use Rattle.abstract_monitor.specs.Picks.{Classed, place_passes}
use Rattle.service_ends.specs.Arrivals.{Arrivals, IsAfter, passes}
use Rattle.service_ends.specs.Index.{IsLeast}
use Rattle.service_ends.proofs.step_scheduler.FirstFrom.{none_ahead}

-- ---- one at the back

above : (n : ℕ) (x : ℕ × Classed) (xs : Arrivals) → IsAfter n (x ∷ xs) → nat_cmp n x.0 ≡ Greater
above n x xs after = greater_is n x.0 (All-head (λ (e : ℕ × Classed). e.0 < n) x xs after)

pub absent_after : (n : ℕ) (es : Arrivals) → IsAfter n es → find nat_cmp n es ≡ None
absent_after n [] after = refl
absent_after n (x ∷ xs) after = ap (λ r. cond (is_eq r) (Some x.1) (find nat_cmp n xs)) (above n x xs after) ∙ absent_after n xs (All-tail (λ (e : ℕ × Classed). e.0 < n) x xs after)

pub put_last : (n : ℕ) (e : Classed) (es : Arrivals) → IsAfter n es → put nat_cmp n e es ≡ es ++ (n, e) ∷ []
put_last n e [] after = refl
put_last n e (x ∷ xs) after =
    ap (λ r. by_order r ((n, e) ∷ x ∷ xs) ((x.0, e) ∷ xs) (x ∷ put nat_cmp n e xs)) (above n x xs after) ∙ ap (λ (l : Arrivals). x ∷ l) (put_last n e xs (All-tail (λ (y : ℕ × Classed). y.0 < n) x xs after))

-- the last number is the greatest
pub after_last : (last : ℕ × Classed) (es : Arrivals) → IsTrue (is_sorted nat_cmp es) → slice_get es (length es - 1) ≡ Some last → IsAfter (last.0 + 1) es
after_last last [] up is = absurd cc
after_last last (x ∷ []) up is =
    let same : x ≡ last = some_is x last is in
    All-cons (λ (e : ℕ × Classed). e.0 < last.0 + 1) x [] (subst (λ (e : ℕ × Classed). x.0 < e.0 + 1) same (omega arith)) (All-nil (λ (e : ℕ × Classed). e.0 < last.0 + 1))
after_last last (x ∷ y ∷ ys) up is =
    let parts = both_true (below_all nat_cmp x.0 (y ∷ ys)) (is_sorted nat_cmp (y ∷ ys)) up in
    let next = ranked x.0 y.0 Less (sym (is_less _ (both_true (is_lt (nat_cmp x.0 y.0)) (below_all nat_cmp x.0 ys) parts.0).0)) in
    let e : suc (length (y ∷ ys) - 1) ≡ length (x ∷ y ∷ ys) - 1 = omega arith in
    let rest = after_last last (y ∷ ys) parts.1 (ap (slice_get (x ∷ y ∷ ys)) e ∙ is) in
    let below = All-head (λ (z : ℕ × Classed). z.0 < last.0 + 1) y ys rest in
    All-cons (λ (z : ℕ × Classed). z.0 < last.0 + 1) x (y ∷ ys) (omega (arith, next, below)) rest

pub after_none : (es : Arrivals) → slice_get es (length es - 1) ≡ None → IsAfter 0 es
after_none [] none = All-nil (λ (e : ℕ × Classed). e.0 < 0)
after_none (x ∷ xs) none =
    let lt : length (x ∷ xs) - 1 < length (x ∷ xs) = omega arith in
    let there = sym (slice_get-get_or (x ∷ xs) (length (x ∷ xs) - 1) x lt) ∙ none in absurd cc

-- the next number, where they are counted from 0
pub counted_on : (e : Classed) (es more : Arrivals) → more ≡ es ++ (length es, e) ∷ [] → IsAfter (length es) es → IsAfter (length more) more
counted_on e es more is after =
    let long : length more ≡ length es + 1 = ap length is ∙ length-append es ((length es, e) ∷ []) in
    let older : IsAfter (length es + 1) es = All-weaker (λ (x : ℕ × Classed). x.0 < length es) (λ (x : ℕ × Classed). x.0 < length es + 1) (λ x lt. omega (arith, lt)) es after in
    subst (λ (n : ℕ). IsAfter n more) (sym long) (subst (IsAfter (length es + 1)) (sym is) (All-push (λ (x : ℕ × Classed). x.0 < length es + 1) es (length es, e) older (omega arith)))

-- one goes from the front of one list to the back of another
pub moved_on : (n k : ℕ) (e : Classed) (es more from rest : Arrivals) (all : List Classed) → more ≡ es ++ (n, e) ∷ [] → from ≡ (k, e) ∷ rest → values_of es ++ values_of from ≡ all → values_of more ++ values_of rest ≡ all
moved_on n k e es more from rest all is taken whole =
    ap (λ (l : Arrivals). values_of l ++ values_of rest) is
    ∙ ap (λ (l : List Classed). l ++ values_of rest) (map-append (λ (x : ℕ × Classed). x.1) es ((n, e) ∷ []))
    ∙ append_assoc (values_of es) (e ∷ []) (values_of rest)
    ∙ sym (ap (λ (l : Arrivals). values_of es ++ values_of l) taken) ∙ whole

-- ---- the first that passes

module _ (test : Classed → Bool) where
  none_later : (x : ℕ × Classed) (xs : Arrivals) → IsTrue (below_all nat_cmp x.0 xs) → find nat_cmp x.0 xs ≡ None
  none_later x [] below = refl
  none_later x (y ∷ ys) below =
      let parts = both_true (is_lt (nat_cmp x.0 y.0)) (below_all nat_cmp x.0 ys) below in
      ap (λ r. cond (is_eq r) (Some y.1) (find nat_cmp x.0 ys)) (is_less _ parts.0) ∙ none_later x ys parts.1

  -- of those behind the first
  passes_later : (x : ℕ × Classed) (xs : Arrivals) → IsTrue (below_all nat_cmp x.0 xs) → (n : ℕ) → passes test (x ∷ xs) n ≡ false → passes test xs n ≡ false
  passes_later x xs below n h = by (eq_by_cmp nat_cmp n x.0) refl h
    where
      by : (b : Bool) → eq_by_cmp nat_cmp n x.0 ≡ b → place_passes test (cond b (Some x.1) (find nat_cmp n xs)) ≡ false → place_passes test (find nat_cmp n xs) ≡ false
      by true tied h = ap (λ k. place_passes test (find nat_cmp k xs)) (nat_cmp-IsAntisymmetric n x.0 ((Equal-is (nat_cmp n x.0)).0 tied)) ∙ ap (place_passes test) (none_later x xs below)
      by false apart h = h

  passes_first : (x : ℕ × Classed) (xs : Arrivals) → passes test (x ∷ xs) x.0 ≡ test x.1
  passes_first x xs = ap (λ r. place_passes test (cond (is_eq r) (Some x.1) (find nat_cmp x.0 xs))) (tied_itself nat_cmp_total x.0)

  pub none_arrived : (es : Arrivals) → IsTrue (is_sorted nat_cmp es) → ((n : ℕ) → passes test es n ≡ false) → first test (values_of es) ≡ None
  none_arrived [] up none = refl
  none_arrived (x ∷ xs) up none =
      let parts = both_true (below_all nat_cmp x.0 xs) (is_sorted nat_cmp xs) up in
      ap (λ b. cond b (Some x.1) (first test (values_of xs))) (sym (passes_first x xs) ∙ none x.0)
      ∙ none_arrived xs parts.1 (λ n. passes_later x xs parts.0 n (none n))

  pub some_arrived : (n : ℕ) (es : Arrivals) → IsTrue (is_sorted nat_cmp es) → IsLeast (passes test es) (Some n) → first test (values_of es) ≡ find nat_cmp n es
  some_arrived n [] up least = refl
  some_arrived n (x ∷ xs) up least = by (eq_by_cmp nat_cmp n x.0) refl least.0 (λ h. some_arrived n xs parts.1 (h, λ m lt. passes_later x xs parts.0 m (least.1 m lt)))
    where
      parts : IsTrue (below_all nat_cmp x.0 xs) × IsTrue (is_sorted nat_cmp xs)
      parts = both_true (below_all nat_cmp x.0 xs) (is_sorted nat_cmp xs) up

      -- one with a greater number is not the first
      behind : eq_by_cmp nat_cmp n x.0 ≡ false → n ≤ x.0 → find nat_cmp n (x ∷ xs) ≡ None
      behind apart le =
          let other : n ≢ x.0 = λ same. true≢false (sym (ap is_eq (ap (nat_cmp n) (sym same) ∙ tied_itself nat_cmp_total n)) ∙ apart) in
          none_ahead nat_cmp nat_cmp_total n x xs (nat_cmp_total.antisymm n x.0 ∙ ap ordering_reverse (greater_is x.0 n (omega arith))) parts.0

      -- one with another number comes before it, and does not pass
      refused : eq_by_cmp nat_cmp n x.0 ≡ false → place_passes test (find nat_cmp n (x ∷ xs)) ≡ true → test x.1 ≡ false
      refused apart there =
          elim (cases_lt x.0 n) [
            | inl before ↦ sym (passes_first x xs) ∙ least.1 x.0 before
            | inr after ↦ absurd (true≢false (sym there ∙ ap (place_passes test) (behind apart after)))
          ]

      by : (b : Bool) → eq_by_cmp nat_cmp n x.0 ≡ b → place_passes test (cond b (Some x.1) (find nat_cmp n xs)) ≡ true → (passes test xs n ≡ true → first test (values_of xs) ≡ find nat_cmp n xs)
          → cond (test x.1) (Some x.1) (first test (values_of xs)) ≡ cond b (Some x.1) (find nat_cmp n xs)
      by true tied there later = ap (λ b. cond b (Some x.1) (first test (values_of xs))) there
      by false apart there later = ap (λ b. cond b (Some x.1) (first test (values_of xs))) (refused apart (ap (λ b. place_passes test (cond b (Some x.1) (find nat_cmp n xs))) apart ∙ there)) ∙ later there

-- ---- whether there is one

any_first : (test : Classed → Bool) (xs : List Classed) → is_some (first test xs) ≡ list_any test xs
any_first test [] = refl
any_first test (x ∷ xs) = by (test x) (any_first test xs)
  where
    by : (b : Bool) → is_some (first test xs) ≡ list_any test xs → is_some (cond b (Some x) (first test xs)) ≡ (b || list_any test xs)
    by true rest = refl
    by false rest = rest

module _ (test : Classed → Bool) (es : Arrivals) (up : IsTrue (is_sorted nat_cmp es)) where
  is_there : (place : Option Classed) → place_passes test place ≡ true → is_some place ≡ true
  is_there None h = absurd cc
  is_there (Some e) h = refl

  pub any_arrived : (least : Option ℕ) → IsLeast (passes test es) least → is_some least ≡ list_any test (values_of es)
  any_arrived None none = sym (sym (any_first test (values_of es)) ∙ ap is_some (none_arrived test es up none))
  any_arrived (Some n) least = sym (sym (any_first test (values_of es)) ∙ ap is_some (some_arrived test n es up least) ∙ is_there (find nat_cmp n es) least.0)

pub none_filtered : (test : Classed → Bool) (xs : List Classed) → false ≡ list_any test xs → filter (λ e. not (test e)) xs ≡ xs
none_filtered test [] none = refl
none_filtered test (x ∷ xs) none = by (test x) none (none_filtered test xs)
  where
    by : (b : Bool) → false ≡ (b || list_any test xs) → (false ≡ list_any test xs → filter (λ e. not (test e)) xs ≡ xs) → cond (not b) (x ∷ filter (λ e. not (test e)) xs) (filter (λ e. not (test e)) xs) ≡ x ∷ xs
    by true none later = absurd cc
    by false none later = ap (λ (l : List Classed). x ∷ l) (later none)

-- ---- one that goes

module _ (n : ℕ) (e : Classed) where
  gone_filter : (test : Classed → Bool) (es : Arrivals) → lookup (is_at (nat_cmp n)) es ≡ Some e → test e ≡ false → filter test (values_of (remove_entry (is_at (nat_cmp n)) es)) ≡ filter test (values_of es)
  gone_filter test [] there other = absurd cc
  gone_filter test (x ∷ xs) there other = by (is_at (nat_cmp n) x.0) there (λ h. gone_filter test xs h other)
    where
      by : (b : Bool) → cond b (Some x.1) (lookup (is_at (nat_cmp n)) xs) ≡ Some e
          → (lookup (is_at (nat_cmp n)) xs ≡ Some e → filter test (values_of (remove_entry (is_at (nat_cmp n)) xs)) ≡ filter test (values_of xs))
          → filter test (values_of (cond b xs (x ∷ remove_entry (is_at (nat_cmp n)) xs))) ≡ cond (test x.1) (x.1 ∷ filter test (values_of xs)) (filter test (values_of xs))
      by true there later = sym (ap (λ b. cond b (x.1 ∷ filter test (values_of xs)) (filter test (values_of xs))) (ap test (some_is x.1 e there) ∙ other))
      by false there later = ap (λ (l : List Classed). cond (test x.1) (x.1 ∷ l) l) (later there)

  gone_length : (es : Arrivals) → lookup (is_at (nat_cmp n)) es ≡ Some e → length (remove_entry (is_at (nat_cmp n)) es) < length es
  gone_length [] there = absurd cc
  gone_length (x ∷ xs) there = by (is_at (nat_cmp n) x.0) there (gone_length xs)
    where
      by : (b : Bool) → cond b (Some x.1) (lookup (is_at (nat_cmp n)) xs) ≡ Some e → (lookup (is_at (nat_cmp n)) xs ≡ Some e → length (remove_entry (is_at (nat_cmp n)) xs) < length xs)
          → length (cond b xs (x ∷ remove_entry (is_at (nat_cmp n)) xs)) < suc (length xs)
      by true there later = omega arith
      by false there later = let h = later there in omega (arith, h)

  module _ (es : Arrivals) (up : IsTrue (is_sorted nat_cmp es)) (there : find nat_cmp n es ≡ Some e) where
    -- what does not pass is not missed
    pub without_filter : (test : Classed → Bool) → test e ≡ false → filter test (values_of (without nat_cmp n es)) ≡ filter test (values_of es)
    without_filter test other = ap (λ (l : Arrivals). filter test (values_of l)) (sym (same_left nat_cmp n es nat_cmp_total up)) ∙ gone_filter test es (same_find nat_cmp n es ∙ there) other

    pub without_length : length (without nat_cmp n es) < length es
    without_length = subst (λ (l : Arrivals). length l < length es) (same_left nat_cmp n es nat_cmp_total up) (gone_length es (same_find nat_cmp n es ∙ there))
