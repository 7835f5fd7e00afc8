-- Steps that may fail, one for each item.
use Rattle.std.proofs.Common.{◌≡◌, ◌⊎◌, inl, inr, ⊎_elim, ℕ, suc, ◌+◌, ◌<◌, ◌≤◌, List, [], ◌∷◌, ◌++◌, length, take, drop, get_or, Option, Some, None, refl, ap, subst, sym, ◌∙◌, arith, drop-cons}
use Rattle.std.specs.Option.{option_and_then}
use Rattle.std.proofs.lemmas.List.{take_more, drop_all}
use Rattle.kdcfile_layout.specs.Places.{At}
use Rattle.kdcfile_layout.specs.PlacesLaws.{at_push}
use Rattle.kdcfile_load.specs.Reads.{steps}

module _ {S X : Type 0} (step : S → X → Option S) (s : S) where
  pub steps_none : steps step s [] ≡ Some s
  unfolding steps
  steps_none = refl

  pub steps_more : (x : X) (xs : List X) → steps step s (x ∷ xs) ≡ option_and_then (λ next. steps step next xs) (step s x)
  unfolding steps
  steps_more x xs = refl

  module _ (xs : List X) (n : ℕ) where
    pub step_end : length xs ≤ n → steps step s (drop n xs) ≡ Some s
    step_end le = ap (λ (l : List X). steps step s l) (drop_all n xs le) ∙ steps_none

    module _ (x d : X) (lt : n < length xs) (is : x ≡ get_or xs n d) where
      rest : steps step s (drop n xs) ≡ option_and_then (λ next. steps step next (drop (n + 1) xs)) (step s x)
      rest =
          let next : suc n ≡ n + 1 = omega arith in
          ap (λ (l : List X). steps step s l) (drop-cons xs n d lt ∙ ap (λ (q : X). q ∷ drop (suc n) xs) (sym is) ∙ ap (λ (m : ℕ). x ∷ drop m xs) next)
          ∙ steps_more x (drop (n + 1) xs)

      pub step_fails : step s x ≡ None → steps step s (drop n xs) ≡ None
      step_fails e = rest ∙ ap (λ (o : Option S). option_and_then (λ (next : S). steps step next (drop (n + 1) xs)) o) e

      pub step_goes : (next : S) → step s x ≡ Some next → steps step s (drop n xs) ≡ steps step next (drop (n + 1) xs)
      step_goes next e = rest ∙ ap (λ (o : Option S). option_and_then (λ (next : S). steps step next (drop (n + 1) xs)) o) e

-- an item of the first n + 1 is one of the first n, or the last
pub one_of_more : {X : Type 0} (xs : List X) (n k : ℕ) (x q d : X) → n < length xs → x ≡ get_or xs n d → At (take (n + 1) xs) k q → At (take n xs) k q ⊎ (x ≡ q)
one_of_more {X} xs n k x q d lt is at =
    ⊎_elim
    (λ front. inl front)
    (λ last. inr last.1)
    (at_push (take n xs) x k q (subst (λ (l : List X). At l k q) (take_more xs n d lt ∙ ap (λ (y : X). take n xs ++ y ∷ []) (sym is)) at))
