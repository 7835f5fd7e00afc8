-- A list that grows by what each item gives.
use Rattle.std.specs.Prelude.{◌≡◌, ℕ, ◌+◌, ◌<◌, List, [], ◌∷◌, ◌++◌, length, map, take, get_or}
use Rattle.std.proofs.Common.{◌∙◌, ap, sym, append_assoc}
use Rattle.std.proofs.lemmas.List.{map_more}
use Rattle.std.proofs.lemmas.Simd.{map-map}

module _ {A B C : Type 0} (f : A → B) (g : B → C) where
  pub grown : (begun old new : List C) (xs : List A) (i : ℕ) (x : A) → i < length xs → x ≡ get_or xs i x → old ≡ begun ++ map g (map f (take i xs)) → new ≡ old ++ g (f x) ∷ [] → new ≡ begun ++ map g (map f (take (i + 1) xs))
  grown begun old new xs i x h is e more =
      more
      ∙ ap (λ (l : List C). l ++ g (f x) ∷ []) (e ∙ ap (λ (l : List C). begun ++ l) (map-map g f (take i xs)))
      ∙ append_assoc begun (map (λ a. g (f a)) (take i xs)) (g (f x) ∷ [])
      ∙ ap (λ (a : A). begun ++ (map (λ a. g (f a)) (take i xs) ++ g (f a) ∷ [])) is
      ∙ ap (λ (l : List C). begun ++ l) (sym (map_more (λ a. g (f a)) xs i x h) ∙ sym (map-map g f (take (i + 1) xs)))
