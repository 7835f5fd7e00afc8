-- How often an item is in a list.
use Rattle.std.specs.Prelude.{◌≡◌, refl, ℕ, zero, suc, ◌+◌, ◌≤◌, Bool, true, false, cond, not, ◌||◌, List, [], ◌∷◌, ◌++◌, map, filter, filter_map, count_by, slice_get, slice_set, Option, Some, None}
use Rattle.std.proofs.Common.{sym, ap, ◌∙◌, subst, true≢false, arith}
use Rattle.std.proofs.lemmas.List.Recursion.{is_count_by}
use Rattle.std.specs.List.{list_any}
use Rattle.kd_base.specs.ToolsLaws.{some_is}
use Rattle.kdcs_types.specs.declared.key.ServiceId.{ServiceId}
use Rattle.kdcs_types.specs.Keys.{id_eq}
use Rattle.kdcs_types.specs.KeyLaws.{id_eq_same}
use Rattle.abstract_monitor.specs.Sessions.{in_place}
use Rattle.abstract_monitor.specs.Commands.{no_place}

-- how many pass the test
abbrev pub times : {X : Type 0} → (X → Bool) → List X → ℕ
times p [] = 0
times p (x ∷ xs) = cond (p x) (suc (times p xs)) (times p xs)

pub times_counts : {X : Type 0} (p : X → Bool) (xs : List X) → times p xs ≡ count_by p xs
times_counts {X} p xs = is_count_by (times p) p refl (λ x xs. one (p x) (times p xs)) xs
  where
    one : (b : Bool) (n : ℕ) → cond b (suc n) n ≡ cond b (1 + n) n
    one true n = omega arith
    one false n = refl

pub times_push : {X : Type 0} (p : X → Bool) (xs : List X) (y : X) → times p (xs ++ y ∷ []) ≡ cond (p y) (suc (times p xs)) (times p xs)
times_push p [] y = refl
times_push p (x ∷ xs) y = elim (p x) as (λ b. cond b (suc (times p (xs ++ y ∷ []))) (times p (xs ++ y ∷ [])) ≡ cond (p y) (suc (cond b (suc (times p xs)) (times p xs))) (cond b (suc (times p xs)) (times p xs))) [
  | true ↦ ap (λ n. suc n) (times_push p xs y) ∙ under (p y) (times p xs)
  | false ↦ times_push p xs y
]
  where
    under : (b : Bool) (n : ℕ) → suc (cond b (suc n) n) ≡ cond b (suc (suc n)) (suc n)
    under true n = refl
    under false n = refl

pub times_append : {X : Type 0} (p : X → Bool) (xs ys : List X) → times p (xs ++ ys) ≡ times p xs + times p ys
times_append p [] ys = omega arith
times_append p (x ∷ xs) ys = more (p x) _ _ _ (times_append p xs ys)
  where
    more : (b : Bool) (k m n : ℕ) → k ≡ m + n → cond b (suc k) k ≡ cond b (suc m) m + n
    more true k m n h = omega arith
    more false k m n h = h

-- an item that passes is there exactly if one is counted
pub any_counted : {X : Type 0} (p : X → Bool) (xs : List X) → list_any p xs ≡ true → 1 ≤ times p xs
any_counted p [] h = absurd (true≢false (sym h))
any_counted p (x ∷ xs) h = by (p x) h (any_counted p xs)
  where
    by : (b : Bool) → (b || list_any p xs) ≡ true → (list_any p xs ≡ true → 1 ≤ times p xs) → 1 ≤ cond b (suc (times p xs)) (times p xs)
    by true e later = omega arith
    by false e later = later e

pub counted_any : {X : Type 0} (p : X → Bool) (xs : List X) → 1 ≤ times p xs → list_any p xs ≡ true
counted_any p [] h = absurd (omega arith)
counted_any p (x ∷ xs) h = by (p x) h (counted_any p xs)
  where
    by : (b : Bool) → 1 ≤ cond b (suc (times p xs)) (times p xs) → (1 ≤ times p xs → list_any p xs ≡ true) → (b || list_any p xs) ≡ true
    by true e later = refl
    by false e later = later e

pub none_counted : {X : Type 0} (p : X → Bool) (xs : List X) → list_any p xs ≡ false → times p xs ≡ 0
none_counted p [] h = refl
none_counted p (x ∷ xs) h = by (p x) h (none_counted p xs)
  where
    by : (b : Bool) → (b || list_any p xs) ≡ false → (list_any p xs ≡ false → times p xs ≡ 0) → cond b (suc (times p xs)) (times p xs) ≡ 0
    by true e later = absurd (true≢false e)
    by false e later = later e

pub counted_none : {X : Type 0} (p : X → Bool) (xs : List X) → times p xs ≡ 0 → list_any p xs ≡ false
counted_none p xs h = by (list_any p xs) refl
  where
    by : (b : Bool) → list_any p xs ≡ b → list_any p xs ≡ false
    by false e = e
    by true e = let k : 1 ≤ times p xs = any_counted p xs e in absurd (omega arith)

-- ---- one item is replaced

pub times_set : {X : Type 0} (p : X → Bool) (xs : List X) (n : ℕ) (old new : X) → slice_get xs n ≡ Some old → times p (slice_set xs n new) + cond (p old) 1 0 ≡ times p xs + cond (p new) 1 0
times_set p [] n old new e = absurd cc
times_set p (x ∷ xs) zero old new e = subst (λ y. cond (p new) (suc (times p xs)) (times p xs) + cond (p y) 1 0 ≡ cond (p x) (suc (times p xs)) (times p xs) + cond (p new) 1 0) (some_is x old e) (swap (p new) (p x) (times p xs))
  where
    swap : (a b : Bool) (n : ℕ) → cond a (suc n) n + cond b 1 0 ≡ cond b (suc n) n + cond a 1 0
    swap true true n = refl
    swap true false n = omega arith
    swap false true n = omega arith
    swap false false n = refl
times_set p (x ∷ xs) (suc n) old new e = more (p x) _ _ _ _ (times_set p xs n old new e)
  where
    more : (b : Bool) (k m i j : ℕ) → k + i ≡ m + j → cond b (suc k) k + i ≡ cond b (suc m) m + j
    more true k m i j h = omega arith
    more false k m i j h = h

-- ---- services

pub times_without_itself : (id : ServiceId) (ids : List ServiceId) → times (id_eq id) (filter (λ i. not (id_eq id i)) ids) ≡ 0
times_without_itself id [] = refl
times_without_itself id (x ∷ xs) = by (id_eq id x) refl (times_without_itself id xs)
  where
    by : (b : Bool) → id_eq id x ≡ b → times (id_eq id) (filter (λ i. not (id_eq id i)) xs) ≡ 0
        → times (id_eq id) (cond (not b) (x ∷ filter (λ i. not (id_eq id i)) xs) (filter (λ i. not (id_eq id i)) xs)) ≡ 0
    by true e h = h
    by false e h = subst (λ c. cond c (suc (times (id_eq id) (filter (λ i. not (id_eq id i)) xs))) (times (id_eq id) (filter (λ i. not (id_eq id i)) xs)) ≡ 0) (sym e) h

pub times_without_other : (i id : ServiceId) (ids : List ServiceId) → id_eq i id ≡ false → times (id_eq i) (filter (λ j. not (id_eq id j)) ids) ≡ times (id_eq i) ids
times_without_other i id [] apart = refl
times_without_other i id (x ∷ xs) apart = by (id_eq id x) refl (times_without_other i id xs apart)
  where
    by : (b : Bool) → id_eq id x ≡ b → times (id_eq i) (filter (λ j. not (id_eq id j)) xs) ≡ times (id_eq i) xs
        → times (id_eq i) (cond (not b) (x ∷ filter (λ j. not (id_eq id j)) xs) (filter (λ j. not (id_eq id j)) xs)) ≡ cond (id_eq i x) (suc (times (id_eq i) xs)) (times (id_eq i) xs)
    by true e h = h ∙ ap (λ c. cond c (suc (times (id_eq i) xs)) (times (id_eq i) xs)) (sym apart ∙ ap (id_eq i) (id_eq_same id x e))
    by false e h = ap (λ n. cond (id_eq i x) (suc n) n) h

-- the services in the tasks
pub held_services : (i : ServiceId) (places : List (Option ServiceId)) → times (id_eq i) (filter_map (λ (place : Option ServiceId). place) places) ≡ times (in_place i) places
held_services i [] = refl
held_services i (None ∷ ps) = held_services i ps
held_services i (Some id ∷ ps) = ap (λ n. cond (id_eq i id) (suc n) n) (held_services i ps)

abbrev no_places : ServiceId → List (Option ServiceId) → List (Option ServiceId)
no_places id places = map (no_place id) places

pub times_freed_itself : (id : ServiceId) (places : List (Option ServiceId)) → times (in_place id) (map (no_place id) places) ≡ 0
times_freed_itself id [] = refl
times_freed_itself id (None ∷ ps) = times_freed_itself id ps
times_freed_itself id (Some x ∷ ps) = by (id_eq id x) refl (times_freed_itself id ps)
  where
    by : (b : Bool) → id_eq id x ≡ b → times (in_place id) (no_places id ps) ≡ 0 → times (in_place id) (cond b None (Some x) ∷ no_places id ps) ≡ 0
    by true e h = h
    by false e h = subst (λ c. cond c (suc (times (in_place id) (no_places id ps))) (times (in_place id) (no_places id ps)) ≡ 0) (sym e) h

pub times_freed_other : (i id : ServiceId) (places : List (Option ServiceId)) → id_eq i id ≡ false → times (in_place i) (map (no_place id) places) ≡ times (in_place i) places
times_freed_other i id [] apart = refl
times_freed_other i id (None ∷ ps) apart = times_freed_other i id ps apart
times_freed_other i id (Some x ∷ ps) apart = by (id_eq id x) refl (times_freed_other i id ps apart)
  where
    by : (b : Bool) → id_eq id x ≡ b → times (in_place i) (no_places id ps) ≡ times (in_place i) ps
        → times (in_place i) (cond b None (Some x) ∷ no_places id ps) ≡ cond (id_eq i x) (suc (times (in_place i) ps)) (times (in_place i) ps)
    by true e h = h ∙ ap (λ c. cond c (suc (times (in_place i) ps)) (times (in_place i) ps)) (sym apart ∙ ap (id_eq i) (id_eq_same id x e))
    by false e h = ap (λ n. cond (id_eq i x) (suc n) n) h
