-- The notes of a record, compared area by area.
use Rattle.std.specs.Prelude.{◌≡◌, List, [], ◌∷◌}
use Rattle.kdcs_types.specs.declared.service.Note.{Note}
use Rattle.laws_of_states.specs.Replay.{noted_area, notes_on}

-- on the area of each of these notes both have the same notes
abbrev pub SameOnEach : List Note → (a b : List Note) → Type 0
SameOnEach [] a b = Unit {0}
SameOnEach (n ∷ ns) a b = (notes_on (noted_area n) a ≡ notes_on (noted_area n) b) × SameOnEach ns a b
