-- Where the units are that tasks have found.
use Rattle.std.specs.Prelude.{◌≡◌, ℕ, List, Option, IfSome, slice_get}
use Rattle.application_types.specs.Fitted.{FittedUnits, unit_of}

-- the unit of a TAC is at this place
abbrev pub IsUnitAt : FittedUnits → List ℕ × ℕ → Type 0
IsUnitAt fitted found = slice_get fitted.units found.1 ≡ unit_of fitted found.0

-- where something was found, it is there
abbrev pub IsFound : FittedUnits → Option (List ℕ × ℕ) → Type 0
IsFound fitted found = IfSome found (IsUnitAt fitted)
