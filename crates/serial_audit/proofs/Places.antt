-- A list from a place on.
use Rattle.std.specs.Prelude.{◌≡◌, refl, ℕ, zero, suc, ◌+◌, ◌<◌, ◌≤◌, List, [], ◌∷◌, drop, get_or, length, slice_get, None}
use Rattle.std.proofs.Common.{arith, sym, ap, ◌∙◌}
use Rattle.std.proofs.Math.Seq.{drop-cons}
use Rattle.std.proofs.lemmas.List.{drop-drop, length-drop}
use Rattle.std.proofs.lemmas.Option.{slice_get_past}

module _ {A : Type 0} where
  pub at_place : (xs : List A) (n next : ℕ) (x : A) → n < length xs → next ≡ n + 1 → x ≡ get_or xs n x → drop n xs ≡ x ∷ drop next xs
  at_place xs n next x lt e is = drop-cons xs n x lt ∙ (λ i. sym is i ∷ drop (after i) xs)
    where
      after : suc n ≡ next
      after = omega (arith, e)

  pub all_dropped : (xs : List A) (n : ℕ) → n ≡ length xs → drop n xs ≡ []
  all_dropped xs n e = ap (λ (k : ℕ). drop k xs) e ∙ by xs
    where
      by : (l : List A) → drop (length l) l ≡ []
      by [] = refl
      by (x ∷ l) = by l

  pub drop_more : (xs : List A) (k : ℕ) (x : A) (m : List A) → drop k xs ≡ x ∷ m → drop (k + 1) xs ≡ m
  drop_more xs k x m e = sym (drop-drop 1 k xs) ∙ ap (drop 1) e

  pub no_more : (xs : List A) (k n : ℕ) → drop k xs ≡ [] → k < n → slice_get xs n ≡ None
  no_more xs k n e lt = slice_get_past xs n (omega (arith, lt, length-drop k xs, ap length e))

  -- a place where nothing is found is past the end
  pub past_end : (xs : List A) (n : ℕ) → None ≡ slice_get xs n → length xs ≤ n
  past_end [] n e = omega arith
  past_end (x ∷ xs) zero e = absurd cc
  past_end (x ∷ xs) (suc n) e = let le = past_end xs n e in omega (arith, le)
