-- A new pool, and plans.
use Rattle.std.proofs.Common.{[], ◌≡◌, ℕ, zero, suc, ◌+◌, ◌-◌, ◌<◌, ◌≤◌, Bool, true, false, not, cond, List, ◌∷◌, ◌++◌, length, take, drop, get_or, refl, ap, sym, subst, ◌∙◌, arith}
use Rattle.std.specs.Prelude.{set, replicate}
use Rattle.kdcfile_layout.specs.Places.{IsDistinct, At}
use Rattle.std.proofs.lemmas.List.Folds.{sum_by-replicate}
use Rattle.std.proofs.lemmas.List.{length-replicate, take_more, drop_more}
use Rattle.std.proofs.lemmas.Option.{slice_get_within, slice_get-get_or}
use Rattle.kdcfile_layout.specs.PlacesLaws.{at_one, at_drop}
use Rattle.kdcfile_layout.specs.Pools.{free_count, IsPool, flagged, IsCountedDown, AreLast, ArePlanned}
use Rattle.kdcfile_layout.specs.PoolsLaws.{flag_kept}

-- ---- a new pool

flag_there : (n p : ℕ) (u : Bool) → p < n → At (replicate n u) p u
flag_there zero p u lt = absurd (omega (arith, lt))
flag_there (suc n) zero u lt = refl
flag_there (suc n) (suc p) u lt = flag_there n p u (omega (arith, lt))

pub new_pool : (order place : List ℕ) (n : ℕ) → IsCountedDown order n n → IsCountedDown place n n → IsPool (replicate n false) order place n
new_pool order place n order_is place_is = record {
  order_length = order_is.long ∙ sym (length-replicate n false);
  place_length = place_is.long ∙ sym (length-replicate n false);
  within = omega (arith, length-replicate n false);
  there = λ p j at. let e = place_is.own p j at in subst (λ (k : ℕ). At order j k) (omega (arith, e)) (order_is.all j (omega (arith, e)));
  back = λ j p at. let e = order_is.own j p at in subst (λ (k : ℕ). At place p k) (omega (arith, e)) (place_is.all p (omega (arith, e)));
  front = λ p j at lt. flag_there n p false (omega (arith, place_is.own p j at));
  after = λ p j at ge. absurd (omega (arith, place_is.own p j at, ge));
  count = all_free n;
}
  where
    all_free : (n : ℕ) → free_count (replicate n false) ≡ n
    all_free n = omega (arith, sum_by-replicate (λ (u : Bool). cond (not u) 1 0) n false)

-- ---- a plan

module _ (used : List Bool) (order place : List ℕ) (free : ℕ) (is : IsPool used order place free) where
  order_distinct : (a b p : ℕ) → At order a p → At order b p → a ≡ b
  order_distinct a b p h k = at_one place p a b (is.back a p h) (is.back b p k)

  -- the last free ones
  pub planned : (needed : ℕ) (pages : List ℕ) → needed ≤ free → AreLast order free needed pages → ArePlanned used needed pages
  planned needed pages le last = record {
    count = last.count;
    distinct = λ a b p h k.
        omega (arith, order_distinct (free - 1 - a) (free - 1 - b) p (last.at a p h) (last.at b p k), slice_get_within pages a p h, slice_get_within pages b p k, last.count, le);
    clear = λ n p h. is.front p (free - 1 - n) (is.back (free - 1 - n) p (last.at n p h)) (omega (arith, slice_get_within pages n p h, last.count, le));
  }

-- ---- a plan is settled

flagged_joined : (flag : Bool) (used : List Bool) (xs ys : List ℕ) → flagged flag used (xs ++ ys) ≡ flagged flag (flagged flag used xs) ys
flagged_joined flag used [] ys = refl
flagged_joined flag used (x ∷ xs) ys = flagged_joined flag (set used x flag) xs ys

pub flagged_more : (flag : Bool) (used : List Bool) (pages : List ℕ) (n : ℕ) → n < length pages → flagged flag used (take (n + 1) pages) ≡ set (flagged flag used (take n pages)) (get_or pages n 0) flag
flagged_more flag used pages n lt = ap (λ (l : List ℕ). flagged flag used l) (take_more pages n 0 lt) ∙ flagged_joined flag used (take n pages) (get_or pages n 0 ∷ [])

set_either : (used : List Bool) (i j : ℕ) (flag : Bool) → set (set used i flag) j flag ≡ set (set used j flag) i flag
set_either [] i j flag = refl
set_either (u ∷ used) zero zero flag = refl
set_either (u ∷ used) zero (suc j) flag = refl
set_either (u ∷ used) (suc i) zero flag = refl
set_either (u ∷ used) (suc i) (suc j) flag = ap (λ (l : List Bool). u ∷ l) (set_either used i j flag)

flagged_last : (flag : Bool) (pages : List ℕ) (used : List Bool) (p : ℕ) → set (flagged flag used pages) p flag ≡ flagged flag (set used p flag) pages
flagged_last flag [] used p = refl
flagged_last flag (q ∷ pages) used p = flagged_last flag pages (set used q flag) p ∙ ap (λ (u : List Bool). flagged flag u pages) (set_either used q p flag)

-- from the last one downward
pub flagged_down : (flag : Bool) (used : List Bool) (pages : List ℕ) (n : ℕ) → n < length pages → flagged flag used (drop n pages) ≡ set (flagged flag used (drop (n + 1) pages)) (get_or pages n 0) flag
flagged_down flag used pages n lt = ap (λ (l : List ℕ). flagged flag used l) (drop_more pages n 0 lt) ∙ sym (flagged_last flag (drop (n + 1) pages) used (get_or pages n 0))

-- the next page to be freed is used
pub next_used : (freed : List ℕ) (used : List Bool) (n : ℕ) → IsDistinct freed → n < length freed → ((m p : ℕ) → At freed m p → At used p true) → At (flagged false used (drop (n + 1) freed)) (get_or freed n 0) true
next_used freed used n distinct lt taken =
    let here = slice_get-get_or freed n 0 lt in
    flag_kept false (drop (n + 1) freed) used (get_or freed n 0) true (λ m h. absurd (omega (arith, distinct (n + 1 + m) n (get_or freed n 0) (at_drop freed (n + 1) m (get_or freed n 0) h) here))) (taken n (get_or freed n 0) here)
