-- Items at places of lists.
use Rattle.std.proofs.Common.{◌++◌, ◌+◌, drop, take, [], ◌≡◌, ◌⊎◌, inl, inr, ⊎_elim, ℕ, zero, suc, ◌<◌, List, ◌∷◌, length, refl, ap, sym, subst, ◌∙◌, arith}
use Rattle.std.specs.Prelude.{set, All}
use Rattle.std.proofs.lemmas.Option.{none-some, same_Some, slice_get_within, get_or_from_slice_get}
use Rattle.kdcfile_layout.specs.Places.{At, IsDistinct}

pub at_within : {X : Type 0} (xs : List X) (n : ℕ) (x : X) → At xs n x → n < length xs
at_within xs n x h = slice_get_within xs n x h

pub at_one : {X : Type 0} (xs : List X) (n : ℕ) (x y : X) → At xs n x → At xs n y → x ≡ y
at_one xs n x y h k = same_Some x y (sym h ∙ k)

pub no_item : {X : Type 0} (n : ℕ) (x : X) → At [] n x → ⊥
no_item n x h = none-some x h

-- after a write to place i, place j has what was written, or is another place and has what it had
pub at_set : {X : Type 0} (xs : List X) (i j : ℕ) (y x : X) → At (set xs i y) j x → ((i ≡ j) × (y ≡ x)) ⊎ ((i ≡ j → ⊥) × At xs j x)
at_set [] i j y x h = absurd (no_item j x h)
at_set (z ∷ xs) zero zero y x h = inl (refl, same_Some y x h)
at_set (z ∷ xs) zero (suc j) y x h = inr (λ e. absurd (omega (arith, e)), h)
at_set (z ∷ xs) (suc i) zero y x h = inr (λ e. absurd (omega (arith, e)), h)
at_set (z ∷ xs) (suc i) (suc j) y x h =
    ⊎_elim
    (λ s. inl (ap suc s.0, s.1))
    (λ o. inr (λ e. o.0 (omega (arith, e)), o.1))
    (at_set xs i j y x h)

pub at_set_other : {X : Type 0} (xs : List X) (i j : ℕ) (y x : X) → (i ≡ j → ⊥) → At xs j x → At (set xs i y) j x
at_set_other [] i j y x apart h = absurd (no_item j x h)
at_set_other (z ∷ xs) zero zero y x apart h = absurd (apart refl)
at_set_other (z ∷ xs) zero (suc j) y x apart h = h
at_set_other (z ∷ xs) (suc i) zero y x apart h = h
at_set_other (z ∷ xs) (suc i) (suc j) y x apart h = at_set_other xs i j y x (λ e. apart (ap suc e)) h

pub at_set_same : {X : Type 0} (xs : List X) (i : ℕ) (y : X) → i < length xs → At (set xs i y) i y
at_set_same [] i y lt = absurd (omega (arith, lt))
at_set_same (z ∷ xs) zero y lt = refl
at_set_same (z ∷ xs) (suc i) y lt = at_set_same xs i y (omega (arith, lt))

-- what holds of all items holds of the one at a place, and the other way round
pub all_at : {X : Type 0} (P : X → Type 0) (xs : List X) (n : ℕ) (x : X) → All P xs → At xs n x → P x
all_at P xs n x all h = subst P (get_or_from_slice_get xs n x x h) (all n x (at_within xs n x h))

pub distinct_tail : {X : Type 0} (x : X) (xs : List X) → IsDistinct (x ∷ xs) → IsDistinct xs
distinct_tail x xs d a b y h k = let e : suc a ≡ suc b = d (suc a) (suc b) y h k in omega (arith, e)

pub distinct_head : {X : Type 0} (x : X) (xs : List X) → IsDistinct (x ∷ xs) → (b : ℕ) → At xs b x → ⊥
distinct_head x xs d b k = let e : zero ≡ suc b = d zero (suc b) x refl k in absurd (omega (arith, e))

-- ---- lists put together and cut

pub at_push : {X : Type 0} (xs : List X) (y : X) (j : ℕ) (p : X) → At (xs ++ y ∷ []) j p → At xs j p ⊎ ((j ≡ length xs) × (y ≡ p))
at_push [] y zero p h = inr (refl, same_Some y p h)
at_push [] y (suc j) p h = absurd (none-some p h)
at_push (z ∷ xs) y zero p h = inl h
at_push (z ∷ xs) y (suc j) p h = ⊎_elim (λ a. inl a) (λ b. inr (ap suc b.0, b.1)) (at_push xs y j p h)

pub at_front : {X : Type 0} (xs ys : List X) (j : ℕ) (p : X) → At xs j p → At (xs ++ ys) j p
at_front [] ys j p h = absurd (none-some p h)
at_front (z ∷ xs) ys zero p h = h
at_front (z ∷ xs) ys (suc j) p h = at_front xs ys j p h

pub at_end : {X : Type 0} (xs : List X) (y : X) → At (xs ++ y ∷ []) (length xs) y
at_end [] y = refl
at_end (z ∷ xs) y = at_end xs y

pub at_take : {X : Type 0} (xs : List X) (n j : ℕ) (p : X) → At (take n xs) j p → At xs j p × (j < n)
at_take xs zero j p h = absurd (none-some p h)
at_take [] (suc n) j p h = absurd (none-some p h)
at_take (y ∷ xs) (suc n) zero p h = (h, omega arith)
at_take (y ∷ xs) (suc n) (suc j) p h = let r = at_take xs n j p h in (r.0, omega (arith, r.1))

pub at_drop : {X : Type 0} (xs : List X) (n j : ℕ) (p : X) → At (drop n xs) j p → At xs (n + j) p
at_drop xs zero j p h = subst (λ (m : ℕ). At xs m p) (omega arith) h
at_drop [] (suc n) j p h = absurd (none-some p h)
at_drop (y ∷ xs) (suc n) j p h = subst (λ (m : ℕ). At (y ∷ xs) m p) (one n j) (at_drop xs n j p h)
  where
    one : (n j : ℕ) → suc (n + j) ≡ suc n + j
    one n j = omega arith
