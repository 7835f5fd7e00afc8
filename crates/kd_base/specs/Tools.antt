-- What is in front of what was found, and a second step after a first one, for readers.
use Rattle.std.specs.Prelude.{List, ◌++◌, Option, Result, Ok, Err}
use Rattle.std.specs.Option.{option_map}

-- ---- `Option`

-- what goes in front of what was found
abbrev pub onto : {A : Type 0} → List A → Option (List A) → Option (List A)
onto {A} before found = option_map (λ (after : List A). before ++ after) found

-- the same, where what follows was found with it
abbrev pub onto_first : {A B : Type 0} → List A → Option (List A × B) → Option (List A × B)
onto_first {A} {B} before found = option_map (λ (p : List A × B). (before ++ p.0, p.1)) found

-- the second step, where the first gave a value
infixl 10 ◌>>=◌
-- ---- `Result`

abbrev pub ◌>>=◌ : {A B E : Type 0} → Result A E → (A → Result B E) → Result B E
(Ok x) >>= f = f x
(Err e) >>= f = Err e
