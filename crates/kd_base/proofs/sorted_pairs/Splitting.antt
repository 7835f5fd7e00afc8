-- Pairs in ascending order, as those in front and those behind: what is found, and what a change makes.
use Rattle.std.specs.Prelude.{◌≡◌, refl, ℕ, ◌+◌, ◌≤◌, ◌<◌, Bool, true, false, cond, not, IsTrue, List, [], ◌∷◌, ◌++◌, filter, length, Option, Some, None, IsSome, is_some, Result, Ok, Err, OnOk, OnErr}
use Rattle.std.specs.Option.{option_or}
use Rattle.std.proofs.Common.{arith, true≢false, ap, append_assoc, subst, sym, ◌∙◌}
use Rattle.std.proofs.lemmas.List.{append-nil, nil_from_length}
use Rattle.std.specs.BTreeMap.{insert_entry}
use Rattle.std.proofs.lemmas.List.Elements.{filter-append}
use Rattle.std.specs.Ordering.{is_eq, is_ge, is_lt, is_some_and, eq_by_cmp}
use Rattle.std.specs.declared.cmp.Ordering.{Ordering}
use Rattle.std.specs.declared.cmp.Ordering.TheVariants.{Less, Equal, Greater}
use Rattle.std.specs.Cmp.{IsTotalOrder}
use Rattle.std.specs.FinMap.{find, put, is_sorted}
use Rattle.std.specs.FinMap.Entries.{by_order, below_all, length-put, length_without}
use Rattle.kd_base.specs.ToolsLaws.{both_true, true_both}
use Rattle.kd_base.specs.OrderLaws.{holds, is_less, sorted_put}
use Rattle.kd_base.specs.Places.{from_key, without}
use Rattle.kd_base.specs.PlacesLaws.{left_sorted, up_head, up_tail}
use Rattle.kd_base.specs.Splits.{IsSplit}
use Rattle.kd_base.specs.TreeLaws.{none_before, same_put}

none_there : (X : Type 0) {Y : Type 0} → IsSome {T = X} None → Y
none_there X there = absurd cc

some_is_some : {X : Type 0} (o : Option X) → IsSome o → is_some o ≡ true
some_is_some {X} None there = none_there X there
some_is_some (Some x) there = refl

sized : (b : Bool) (n : ℕ) → n < 8 → cond b n (n + 1) ≤ 8
sized true n lt = omega arith
sized false n lt = omega arith

not_less : (r : Ordering) → is_ge r ≡ true → is_lt r ≡ false
not_less Less e = absurd (true≢false (sym e))
not_less Equal e = refl
not_less Greater e = refl

some_not : {X Y : Type 0} (x : X) → Some x ≡ None → Y
some_not x e = absurd cc

-- where the test is always true
pub kept_all : {A : Type 0} (xs : List A) → filter (λ (x : A). true) xs ≡ xs
kept_all [] = refl
kept_all (x ∷ xs) = ap (λ l. x ∷ l) (kept_all xs)

module _ {K X : Type 0} (R : K → K → Ordering) where
  below_front : (k : K) (xs ys : List (K × X)) → IsTrue (below_all R k (xs ++ ys)) → IsTrue (below_all R k xs)
  below_front k [] ys below = refl
  below_front k (x ∷ xs) ys below =
      let parts = both_true (is_lt (R k x.0)) (below_all R k (xs ++ ys)) below in
      true_both (is_lt (R k x.0)) (below_all R k xs) parts.0 (below_front k xs ys parts.1)

  below_behind : (k : K) (xs ys : List (K × X)) → IsTrue (below_all R k (xs ++ ys)) → IsTrue (below_all R k ys)
  below_behind k [] ys below = below
  below_behind k (x ∷ xs) ys below = below_behind k xs ys (both_true (is_lt (R k x.0)) (below_all R k (xs ++ ys)) below).1

  pub front_sorted : (xs ys : List (K × X)) → IsTrue (is_sorted R (xs ++ ys)) → IsTrue (is_sorted R xs)
  front_sorted [] ys up = refl
  front_sorted (x ∷ xs) ys up =
      let parts = both_true (below_all R x.0 (xs ++ ys)) (is_sorted R (xs ++ ys)) up in
      true_both (below_all R x.0 xs) (is_sorted R xs) (below_front x.0 xs ys parts.0) (front_sorted xs ys parts.1)

  pub behind_sorted : (xs ys : List (K × X)) → IsTrue (is_sorted R (xs ++ ys)) → IsTrue (is_sorted R ys)
  behind_sorted [] ys up = up
  behind_sorted (x ∷ xs) ys up = behind_sorted xs ys (both_true (below_all R x.0 (xs ++ ys)) (is_sorted R (xs ++ ys)) up).1

  -- ---- what is found

  pub find_both : (k : K) (xs ys : List (K × X)) → find R k (xs ++ ys) ≡ option_or (find R k xs) (find R k ys)
  find_both k [] ys = refl
  find_both k (x ∷ xs) ys = by (eq_by_cmp R k x.0) (find_both k xs ys)
    where
      by : (b : Bool) → find R k (xs ++ ys) ≡ option_or (find R k xs) (find R k ys) → cond b (Some x.1) (find R k (xs ++ ys)) ≡ option_or (cond b (Some x.1) (find R k xs)) (find R k ys)
      by true rest = refl
      by false rest = rest

  pub found_in_front : (k : K) (v : X) (xs ys : List (K × X)) → Some v ≡ find R k xs → Some v ≡ find R k (xs ++ ys)
  found_in_front k v xs ys e = sym (find_both k xs ys ∙ ap (λ o. option_or o (find R k ys)) (sym e))

  pub found_behind : (k : K) (xs ys : List (K × X)) → None ≡ find R k xs → find R k ys ≡ find R k (xs ++ ys)
  found_behind k xs ys e = sym (find_both k xs ys ∙ ap (λ o. option_or o (find R k ys)) (sym e))

  none_left : (k : K) (es : List (K × X)) → find R k es ≡ None → without R k es ≡ es
  none_left k [] none = refl
  none_left k (e ∷ es) none = by (eq_by_cmp R k e.0) none (none_left k es)
    where
      by : (b : Bool) → cond b (Some e.1) (find R k es) ≡ None → (find R k es ≡ None → without R k es ≡ es) → cond (not b) (e ∷ without R k es) (without R k es) ≡ e ∷ es
      by true is rest = some_not e.1 is
      by false is rest = ap (λ (l : List (K × X)). e ∷ l) (rest is)

  pub left_behind : (k : K) (xs ys : List (K × X)) → None ≡ find R k xs → without R k (xs ++ ys) ≡ xs ++ without R k ys
  left_behind k xs ys none = filter-append (λ (e : K × X). not (eq_by_cmp R k e.0)) xs ys ∙ ap (λ (l : List (K × X)). l ++ without R k ys) (none_left k xs (sym none))

  pub from_both : (k : K) (xs ys : List (K × X)) → from_key R k (xs ++ ys) ≡ from_key R k xs ++ from_key R k ys
  from_both k xs ys = filter-append (λ (e : K × X). not (is_lt (R e.0 k))) xs ys

  -- ---- another value of a key in front

  pub put_front : (k : K) (v : X) (xs ys : List (K × X)) → IsSome (find R k xs) → put R k v (xs ++ ys) ≡ put R k v xs ++ ys
  put_front k v [] ys there = none_there X there
  put_front k v (x ∷ xs) ys there = by (R k x.0) there (put_front k v xs ys)
    where
      by : (r : Ordering) → IsSome (cond (is_eq r) (Some x.1) (find R k xs)) → (IsSome (find R k xs) → put R k v (xs ++ ys) ≡ put R k v xs ++ ys)
          → by_order r ((k, v) ∷ x ∷ (xs ++ ys)) ((x.0, v) ∷ (xs ++ ys)) (x ∷ put R k v (xs ++ ys)) ≡ by_order r ((k, v) ∷ x ∷ xs) ((x.0, v) ∷ xs) (x ∷ put R k v xs) ++ ys
      by Less is rest = refl
      by Equal is rest = refl
      by Greater is rest = ap (λ (l : List (K × X)). x ∷ l) (rest is)

  -- a key below all of them
  pub put_below : (k : K) (v : X) (es : List (K × X)) → IsTrue (below_all R k es) → put R k v es ≡ (k, v) ∷ es
  put_below k v [] below = refl
  put_below k v (e ∷ es) below =
      ap (λ r. by_order r ((k, v) ∷ e ∷ es) ((e.0, v) ∷ es) (e ∷ put R k v es)) (is_less (R k e.0) (both_true (is_lt (R k e.0)) (below_all R k es) below).0)

module _ {K X : Type 0} (R : K → K → Ordering) (o : IsTotalOrder R) where
  none_after : (k : K) (x : K × X) (es : List (K × X)) → R k x.0 ≡ Equal → IsTrue (below_all R x.0 es) → find R k es ≡ None
  none_after k x [] tied below = refl
  none_after k x (e ∷ es) tied below =
      let parts = both_true (is_lt (R x.0 e.0)) (below_all R x.0 es) below in
      ap (λ r. cond (is_eq r) (Some e.1) (find R k es)) (o.congr k x.0 e.0 tied ∙ is_less _ parts.0) ∙ none_after k x es tied parts.1

  -- what is in front is not behind
  none_behind : (k : K) (xs ys : List (K × X)) → IsTrue (is_sorted R (xs ++ ys)) → IsSome (find R k xs) → find R k ys ≡ None
  none_behind k [] ys up there = none_there X there
  none_behind k (x ∷ xs) ys up there = by (R k x.0) refl there (none_behind k xs ys (up_tail R o x (xs ++ ys) up))
    where
      below : IsTrue (below_all R x.0 ys)
      below = below_behind R x.0 xs ys (up_head R o x (xs ++ ys) up)

      by : (r : Ordering) → R k x.0 ≡ r → IsSome (cond (is_eq r) (Some x.1) (find R k xs)) → (IsSome (find R k xs) → find R k ys ≡ None) → find R k ys ≡ None
      by Less is th rest = none_before R k x ys o is below
      by Equal is th rest = none_after k x ys is below
      by Greater is th rest = rest th

  pub left_front : (k : K) (xs ys : List (K × X)) → IsTrue (is_sorted R (xs ++ ys)) → IsSome (find R k xs) → without R k (xs ++ ys) ≡ without R k xs ++ ys
  left_front k xs ys up there =
      filter-append (λ (e : K × X). not (eq_by_cmp R k e.0)) xs ys ∙ ap (λ (l : List (K × X)). without R k xs ++ l) (none_left R k ys (none_behind k xs ys up there))

  -- another value of a key behind
  pub put_behind : (k : K) (v : X) (xs ys : List (K × X)) → IsTrue (is_sorted R (xs ++ ys)) → IsSome (find R k ys) → put R k v (xs ++ ys) ≡ xs ++ put R k v ys
  put_behind k v [] ys up there = refl
  put_behind k v (x ∷ xs) ys up there = by (R k x.0) refl (put_behind k v xs ys (up_tail R o x (xs ++ ys) up) there)
    where
      below : IsTrue (below_all R x.0 ys)
      below = below_behind R x.0 xs ys (up_head R o x (xs ++ ys) up)

      by : (r : Ordering) → R k x.0 ≡ r → put R k v (xs ++ ys) ≡ xs ++ put R k v ys → by_order r ((k, v) ∷ x ∷ (xs ++ ys)) ((x.0, v) ∷ (xs ++ ys)) (x ∷ put R k v (xs ++ ys)) ≡ x ∷ (xs ++ put R k v ys)
      by Less is rest = none_there X (subst IsSome (none_before R k x ys o is below) there)
      by Equal is rest = none_there X (subst IsSome (none_after k x ys is below) there)
      by Greater is rest = ap (λ (l : List (K × X)). x ∷ l) rest

  -- ---- the pairs from a key on

  later : (k : K) (e : K × X) (es : List (K × X)) → is_lt (R e.0 k) ≡ false → IsTrue (below_all R e.0 es) → from_key R k es ≡ es
  later k e [] from below = refl
  later k e (f ∷ es) from below =
      let parts = both_true (is_lt (R e.0 f.0)) (below_all R e.0 es) below in
      ap (λ b. cond (not b) (f ∷ from_key R k es) (from_key R k es)) (by (is_lt (R f.0 k)) refl (is_less _ parts.0)) ∙ ap (λ (l : List (K × X)). f ∷ l) (later k e es from parts.1)
    where
      by : (b : Bool) → is_lt (R f.0 k) ≡ b → R e.0 f.0 ≡ Less → b ≡ false
      by false is less = refl
      by true is less = sym (ap is_lt (o.trans e.0 f.0 k less (is_less _ is))) ∙ from

  pub not_before : (k : K) (e : K × X) (b : Bool) (r : Option Ordering) → r ≡ Some (R e.0 k) → b ≡ is_some_and is_ge r → b ≡ true → is_lt (R e.0 k) ≡ false
  not_before k e b r is answer holds_so = not_less (R e.0 k) (sym (ap (is_some_and is_ge) is) ∙ sym answer ∙ holds_so)

  pub all_later : (k : K) (es : List (K × X)) (e : K × X) (more : List (K × X)) → es ≡ e ∷ more → is_lt (R e.0 k) ≡ false → IsTrue (is_sorted R es) → from_key R k es ≡ es
  all_later k es e more is from up =
      let rises : IsTrue (is_sorted R (e ∷ more)) = subst (λ (l : List (K × X)). IsTrue (is_sorted R l)) is up in
      ap (from_key R k) is ∙ ap (λ b. cond (not b) (e ∷ from_key R k more) (from_key R k more)) from ∙ ap (λ (l : List (K × X)). e ∷ l) (later k e more from (up_head R o e more rises)) ∙ sym is

  -- ---- the list in front takes a pair, or loses one

  pub put_few : (k : K) (v : X) (few many : List (K × X)) → length many ≡ 0 → put R k v few ++ many ≡ put R k v (few ++ many)
  put_few k v few many empty =
      let none : many ≡ [] = nil_from_length many empty in
      ap (λ (m : List (K × X)). put R k v few ++ m) none ∙ append-nil (put R k v few) ∙ sym (ap (put R k v) (ap (λ (m : List (K × X)). few ++ m) none ∙ append-nil few))

  pub split_put : (k : K) (v : X) (few many : List (K × X)) → IsSplit R few many → length many ≡ 0 → length few < 8 → IsSplit R (put R k v few) many
  split_put k v few many split empty lt = record {
    ascending = subst (λ (l : List (K × X)). IsTrue (is_sorted R l)) (sym (put_few k v few many empty)) (sorted_put o k v (few ++ many) split.ascending);
    small = subst (λ n. n ≤ 8) (sym (length-put R o k v few (holds _ (front_sorted R few many split.ascending)))) (sized (is_some (find R k few)) (length few) lt);
  }

  -- or there was no memory for it
  pub split_either : {A E : Type 0} (r : Result A E) (k : K) (v : X) (few after many : List (K × X)) → OnOk r (after ≡ put R k v few) → OnErr r (after ≡ few) → IsSplit R few many → length many ≡ 0 → length few < 8 → IsSplit R after many
  split_either (Ok x) k v few after many ok err split empty lt = subst (λ (l : List (K × X)). IsSplit R l many) (sym ok) (split_put k v few many split empty lt)
  split_either (Err e) k v few after many ok err split empty lt = subst (λ (l : List (K × X)). IsSplit R l many) (sym err) split

  -- another value of a key in front
  pub split_front : (k : K) (v : X) (few many : List (K × X)) → IsSplit R few many → IsSome (find R k few) → IsSplit R (put R k v few) many
  split_front k v few many split there = record {
    ascending = subst (λ (l : List (K × X)). IsTrue (is_sorted R l)) (put_front R k v few many there) (sorted_put o k v (few ++ many) split.ascending);
    small = subst (λ n. n ≤ 8) (sym (length-put R o k v few (holds _ (front_sorted R few many split.ascending)) ∙ ap (λ b. cond b (length few) (length few + 1)) (some_is_some (find R k few) there))) split.small;
  }

  pub split_behind : (k : K) (v : X) (few many : List (K × X)) → IsSplit R few many → IsSome (find R k many) → IsSplit R few (put R k v many)
  split_behind k v few many split there =
      record { ascending = subst (λ (l : List (K × X)). IsTrue (is_sorted R l)) (put_behind k v few many split.ascending there) (sorted_put o k v (few ++ many) split.ascending); small = split.small }

  pub split_left : (k : K) (few many : List (K × X)) → IsSplit R few many → IsSome (find R k few) → IsSplit R (without R k few) many
  split_left k few many split there =
      let counted : cond (is_some (find R k few)) 1 0 + length (without R k few) ≡ length few = length_without R o k few (holds _ (front_sorted R few many split.ascending)) in
      record { ascending = subst (λ (l : List (K × X)). IsTrue (is_sorted R l)) (left_front k few many split.ascending there) (left_sorted R k (few ++ many) split.ascending); small = omega (arith, counted, split.small) }

  pub split_left_behind : (k : K) (few many : List (K × X)) → IsSplit R few many → None ≡ find R k few → IsSplit R few (without R k many)
  split_left_behind k few many split none =
      record { ascending = subst (λ (l : List (K × X)). IsTrue (is_sorted R l)) (left_behind R k few many none) (left_sorted R k (few ++ many) split.ascending); small = split.small }

  -- ---- pairs of the list went to the tree

  pub planted_put : (k : K) (v : X) (pairs front behind after : List (K × X)) → front ≡ [] → front ++ behind ≡ pairs → after ≡ insert_entry R behind k v → front ++ after ≡ put R k v pairs
  planted_put k v pairs front behind after none same is =
      ap (λ (l : List (K × X)). l ++ after) none ∙ is ∙ same_put R k v behind ∙ ap (put R k v) (sym (ap (λ (l : List (K × X)). l ++ behind) none) ∙ same)

  pub split_planted : (k : K) (v : X) (pairs front behind after : List (K × X)) → IsTrue (is_sorted R pairs) → front ≡ [] → front ++ behind ≡ pairs → after ≡ insert_entry R behind k v → IsSplit R front after
  split_planted k v pairs front behind after up none same is = record {
    ascending = subst (λ (l : List (K × X)). IsTrue (is_sorted R l)) (sym (planted_put k v pairs front behind after none same is)) (sorted_put o k v pairs up);
    small = subst (λ (l : List (K × X)). length l ≤ 8) (sym none) (omega arith);
  }

  -- the last pair of those in front becomes the first one behind
  pub moved : (front : List (K × X)) (e : K × X) (all behind after : List (K × X)) → all ≡ front ++ e ∷ [] → IsTrue (is_sorted R (all ++ behind)) → after ≡ insert_entry R behind e.0 e.1 → front ++ after ≡ all ++ behind
  moved front e all behind after is up inserted =
      let whole : all ++ behind ≡ front ++ e ∷ behind = ap (λ (l : List (K × X)). l ++ behind) is ∙ append_assoc front (e ∷ []) behind in
      let below = up_head R o e behind (behind_sorted R front (e ∷ behind) (subst (λ (l : List (K × X)). IsTrue (is_sorted R l)) whole up)) in
      ap (λ (l : List (K × X)). front ++ l) (inserted ∙ same_put R e.0 e.1 behind ∙ put_below R e.0 e.1 behind below) ∙ sym whole
