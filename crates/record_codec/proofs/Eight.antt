-- Lists of eight bytes.
use Rattle.std.specs.Prelude.{◌≡◌, refl, ℕ, List, [], ◌∷◌, ◌++◌, length, slice_index_or}
use Rattle.std.proofs.Common.{arith, ap, ◌∙◌}

abbrev cells : List ℕ → List ℕ → List ℕ
cells xs behind = slice_index_or xs 0 0 ∷ slice_index_or xs 1 0 ∷ slice_index_or xs 2 0 ∷ slice_index_or xs 3 0 ∷ slice_index_or xs 4 0 ∷ slice_index_or xs 5 0 ∷ slice_index_or xs 6 0 ∷ slice_index_or xs 7 0 ∷ behind

cells_are : (xs behind : List ℕ) → length xs ≡ 8 → cells xs behind ≡ xs ++ behind
cells_are (a ∷ b ∷ c ∷ d ∷ e ∷ f ∷ g ∷ h ∷ []) behind p = refl
cells_are (a ∷ b ∷ c ∷ d ∷ e ∷ f ∷ g ∷ h ∷ i ∷ more) behind p = absurd (omega (arith, p))
cells_are (a ∷ b ∷ c ∷ d ∷ e ∷ f ∷ g ∷ []) behind p = absurd (omega (arith, p))
cells_are (a ∷ b ∷ c ∷ d ∷ e ∷ f ∷ []) behind p = absurd (omega (arith, p))
cells_are (a ∷ b ∷ c ∷ d ∷ e ∷ []) behind p = absurd (omega (arith, p))
cells_are (a ∷ b ∷ c ∷ d ∷ []) behind p = absurd (omega (arith, p))
cells_are (a ∷ b ∷ c ∷ []) behind p = absurd (omega (arith, p))
cells_are (a ∷ b ∷ []) behind p = absurd (omega (arith, p))
cells_are (a ∷ []) behind p = absurd (omega (arith, p))
cells_are [] behind p = absurd (omega (arith, p))

nil_behind : (xs : List ℕ) → xs ++ [] ≡ xs
nil_behind [] = refl
nil_behind (x ∷ xs) = ap (λ (l : List ℕ). x ∷ l) (nil_behind xs)

pub joined_is : (a b : List ℕ) → length a ≡ 8 → length b ≡ 8 → cells a (cells b []) ≡ a ++ b
joined_is a b h k = cells_are a (cells b []) h ∙ ap (λ (l : List ℕ). a ++ l) (cells_are b [] k ∙ nil_behind b)
