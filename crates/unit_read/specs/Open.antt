-- What a unit that is open, and what was read so far, stand for.
use Rattle.std.specs.Prelude.{◌≤◌, length, Option, Some, None}
use Rattle.std.specs.Option.{option_map}
use Rattle.application_types.specs.UnitText.{UnitText}
use Rattle.unit_read.specs.declared.open_unit.OpenUnit.{OpenUnit}
use Rattle.unit_read.specs.declared.reading.Reading.{Reading}
use Rattle.unit_read.specs.Names.{AreFieldNames, AreLabelNames, AreUnitNames}
use Rattle.unit_read.specs.Units.{State}

-- the unit that it would be if it ended here
abbrev pub unit_so_far : OpenUnit → UnitText
unit_so_far u = record { name = u.name; line = u.line; fields = u.fields.items; labels = u.labels.items; statements = u.statements.items }

-- its sets hold the names of its fields and labels
pub record HasItsNames (u : OpenUnit) : Type 0 where
  pub fields : AreFieldNames u.field_names u.fields.items
  pub labels : AreLabelNames u.label_names u.labels.items
  pub few : length u.statements.items ≤ 10000

abbrev pub state_of : Reading → State
state_of r = record { units = r.units.items; current = option_map unit_so_far r.unit }

abbrev pub OpenIsKept : Option OpenUnit → Type 0
OpenIsKept None = Unit {0}
OpenIsKept (Some u) = HasItsNames u

-- its set holds the names of the whole units, and the open one is kept
pub record AreKept (r : Reading) : Type 0 where
  pub names : AreUnitNames r.names r.units.items
  pub open_unit : OpenIsKept r.unit
