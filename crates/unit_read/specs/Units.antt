-- Pieces, one after another, as units.
use Rattle.std.specs.Prelude.{ℕ, ◌+◌, ◌&&◌, ◌==◌, nat_le, List, [], ◌∷◌, ◌++◌, length, Option, None, Some, Result, Ok, Err, if◌then◌else◌}
use Rattle.application_types.specs.declared.unit_types.action.Action.{Action}
use Rattle.application_types.specs.declared.unit_types.unit.Field.{Field}
use Rattle.application_types.specs.UnitText.{UnitText}
use Rattle.unit_read.specs.declared.fault.UnitFault.{UnitFault}
use Rattle.unit_read.specs.declared.fault.UnitFault.TheVariants.{BadStatement, BadField, LabelTwice, NoEnd, UnitTwice, TooLong}
use Rattle.unit_read.specs.declared.piece.Piece.{Piece}
use Rattle.unit_read.specs.declared.piece.Piece.TheVariants as pieces
use Rattle.kd_base.specs.Tools.{◌>>=◌}
use Rattle.unit_read.specs.Names.{has_field, has_label, has_unit}
use Rattle.unit_read.specs.Used.{uses}

-- a unit after its UNIT line
abbrev pub begun : List ℕ → ℕ → UnitText
begun name line = record { name = name; line = line; fields = []; labels = []; statements = [] }

-- one more field, label or statement
abbrev pub add_field : Field → UnitText → UnitText
add_field f u = record { name = u.name; line = u.line; fields = u.fields ++ f ∷ []; labels = u.labels; statements = u.statements }

abbrev pub add_label : List ℕ → UnitText → UnitText
add_label l u = record { name = u.name; line = u.line; fields = u.fields; labels = u.labels ++ (l, length u.statements + 1) ∷ []; statements = u.statements }

abbrev pub add_statement : ℕ → Action → UnitText → UnitText
add_statement n a u = record { name = u.name; line = u.line; fields = u.fields; labels = u.labels; statements = u.statements ++ record { line = n; action = a } ∷ [] }

-- the same, or the fault that the line has
abbrev pub with_field : Field → UnitText → Result UnitText UnitFault
with_field f u =
    if length u.labels == 0 && length u.statements == 0
    then (if has_field u.fields f.name then Err (BadField f.line) else Ok (add_field f u))
    else Err (BadStatement f.line)

abbrev pub with_label : ℕ → List ℕ → UnitText → Result UnitText UnitFault
with_label n l u = if has_label u.labels l then Err (LabelTwice n) else Ok (add_label l u)

abbrev pub with_statement : ℕ → Action → UnitText → Result UnitText UnitFault
with_statement n a u =
    if uses (has_field u.fields) a
    then (if nat_le 10000 (length u.statements) then Err (TooLong n) else Ok (add_statement n a u))
    else Err (BadField n)

-- one more piece of a unit, which is not its END
abbrev pub with_piece : ℕ → Piece → UnitText → Result UnitText UnitFault
with_piece n (pieces.Field name spab offset len) u = with_field (record { name = name; line = n; spab = spab; offset = offset; length = len }) u
with_piece n (pieces.Label l) u = with_label n l u
with_piece n (pieces.Statement a) u = with_statement n a u
with_piece n _ u = Err (NoEnd n)

-- whole units, and the one that is open
pub record State : Type 0 where
  pub units : List UnitText
  pub current : Option UnitText

abbrev pub nothing_read : State
nothing_read = record { units = []; current = None }

abbrev pub in_unit : List UnitText → UnitText → State
in_unit us u = record { units = us; current = Some u }

-- a piece where no unit is open
abbrev pub opened : ℕ → Piece → List UnitText → Result State UnitFault
opened n (pieces.Unit name) us =
    if has_unit us name then Err (UnitTwice n)
    else (if nat_le 1000 (length us) then Err (TooLong n) else Ok (in_unit us (begun name n)))
opened n _ us = Err (BadStatement n)

-- the open unit ends
abbrev pub closed : List UnitText → UnitText → Result State UnitFault
closed us u = Ok (record { units = us ++ u ∷ []; current = None })

abbrev pub goes_on : ℕ → Piece → List UnitText → UnitText → Result State UnitFault
goes_on n piece us u = with_piece n piece u >>= λ v. Ok (in_unit us v)

-- a piece where a unit is open
abbrev pub within : ℕ → Piece → List UnitText → UnitText → Result State UnitFault
within n pieces.End us u = closed us u
within n piece us u = goes_on n piece us u

abbrev pub by_current : Option UnitText → ℕ → Piece → List UnitText → Result State UnitFault
by_current None n piece us = opened n piece us
by_current (Some u) n piece us = within n piece us u

-- one more piece, on this line
abbrev pub stepped : ℕ → Piece → State → Result State UnitFault
stepped n piece s = by_current s.current n piece s.units

abbrev pub units_at_end : Option UnitText → ℕ → List UnitText → Result (List UnitText) UnitFault
units_at_end None n us = Ok us
units_at_end (Some u) n us = Err (NoEnd n)

-- the units, where the text ends before line n
abbrev pub finished : ℕ → State → Result (List UnitText) UnitFault
finished n s = units_at_end s.current n s.units
