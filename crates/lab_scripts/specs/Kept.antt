-- The text that is kept of what passes at a console.
use Rattle.std.specs.Prelude.{◌≡◌, ℕ, List, [], ◌∷◌, ◌++◌}
use Rattle.lab_turns.specs.Consoles.{Passed, Typed, Ended, Put}

-- the bytes that were printed
unfoldable pub put_in : List Passed → List ℕ
put_in [] = []
put_in (Typed line ∷ ps) = put_in ps
put_in (Ended ∷ ps) = put_in ps
put_in (Put byte ∷ ps) = byte ∷ put_in ps

-- the text that was printed came behind what was kept before
abbrev pub Keeps : List ℕ → List Passed → List ℕ → Type 0
Keeps before passed after = after ≡ before ++ put_in passed
