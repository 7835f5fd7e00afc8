-- The first of a list.
use Rattle.std.specs.Prelude.{List, [], ◌∷◌, Option, Some, None}

-- the first and those behind it, where there is one
abbrev pub first_of : {A : Type 0} → List A → Option (A × List A)
first_of [] = None
first_of (x ∷ xs) = Some (x, xs)
