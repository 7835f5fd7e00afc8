-- What reading finds, against what a text spells.
use Rattle.std.specs.Prelude.{◌≡◌, ℕ, List, Ok}
use Rattle.application_types.specs.UnitText.{UnitText}
use Rattle.unit_read.specs.Reading.{read_text}
use Rattle.unit_read.specs.Spelling.{SpellsUnits}

-- the text spells the units that reading it gives
abbrev pub ReadUnitsAreSpelled : Type 0
ReadUnitsAreSpelled = (text : List ℕ) (us : List UnitText) → read_text text ≡ Ok us → SpellsUnits text us
