-- Items at places of lists.
use Rattle.std.specs.Prelude.{◌≡◌, ℕ, List, Some}
use Rattle.std.specs.List.{slice_get}

-- an item is at this place of a list
abbrev pub At : {X : Type 0} → List X → ℕ → X → Type 0
At xs n x = slice_get xs n ≡ Some x

-- no item is at two places
abbrev pub IsDistinct : {X : Type 0} → List X → Type 0
IsDistinct {X} xs = (a b : ℕ) (x : X) → At xs a x → At xs b x → a ≡ b
