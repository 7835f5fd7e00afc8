-- A fault is at a line.
use Rattle.std.specs.Prelude.{◌≡◌, ℕ, ◌+◌, ◌<◌, ◌≤◌, ◌⊎◌, true, false, List, [], ◌∷◌, ◌++◌, length, codes, Option, Some, None}
use Rattle.std.specs.Str.Lines.{lines}
use Rattle.kd_base.specs.Limits.{longest_text}
use Rattle.application_types.specs.UnitText.{UnitText}
use Rattle.unit_read.specs.declared.fault.UnitFault.{UnitFault}
use Rattle.unit_read.specs.declared.fault.UnitFault.TheVariants.{BadStatement, BadField, LabelTwice, NoEnd, UnitTwice, TooLong, Memory}
use Rattle.unit_read.specs.declared.piece.Piece.{Piece}
use Rattle.unit_read.specs.declared.piece.Piece.TheVariants as pieces
use Rattle.unit_read.specs.Lines.{is_passed}
use Rattle.unit_read.specs.Grammar.{SpellsPiece}
use Rattle.unit_read.specs.Names.{has_field, has_label, has_unit}
use Rattle.unit_read.specs.Used.{uses}
use Rattle.unit_read.specs.Spelling.{Placed, has_no_body, ArePieces, IsBegun, MayComeAfter, AreUnits}

-- ---- what is above a line

abbrev pub IsOpen : List UnitText → Option UnitText → List Placed → Type 0
IsOpen before None own = own ≡ []
IsOpen before (Some u) own = MayComeAfter before u × IsBegun u own

-- the pieces are these whole units, and then those of the unit that is open
abbrev pub Stand : List UnitText → Option UnitText → List Placed → Type 0
Stand us open_unit ps = (whole own : List Placed) × (ps ≡ whole ++ own) × AreUnits [] us whole × IsOpen us open_unit own

-- ---- faults of a piece, after these whole units and in the open one

-- anything but a UNIT line where no unit is open, or a FIELD line after a label or a statement
abbrev pub IsMisplaced : Option UnitText → Piece → Type 0
IsMisplaced None (pieces.Unit name) = ⊥
IsMisplaced None _ = Unit {0}
IsMisplaced (Some u) (pieces.Field name spab offset len) = has_no_body u ≡ false
IsMisplaced (Some u) _ = ⊥

-- a field that is defined twice, or one that is not defined
abbrev pub NamesBadField : Option UnitText → Piece → Type 0
NamesBadField (Some u) (pieces.Field name spab offset len) = (has_no_body u ≡ true) × (has_field u.fields name ≡ true)
NamesBadField (Some u) (pieces.Statement a) = uses (has_field u.fields) a ≡ false
NamesBadField _ _ = ⊥

-- a label that the unit has
abbrev pub RepeatsLabel : Option UnitText → Piece → Type 0
RepeatsLabel (Some u) (pieces.Label l) = has_label u.labels l ≡ true
RepeatsLabel _ _ = ⊥

-- a UNIT line in an open unit
abbrev pub MeetsUnit : Option UnitText → Piece → Type 0
MeetsUnit (Some u) (pieces.Unit name) = Unit {0}
MeetsUnit _ _ = ⊥

-- the UNIT line of a name that a unit has
abbrev pub RepeatsUnit : List UnitText → Option UnitText → Piece → Type 0
RepeatsUnit us None (pieces.Unit name) = has_unit us name ≡ true
RepeatsUnit _ _ _ = ⊥

-- a statement after 10,000, or a unit after 1,000
abbrev pub IsOneTooMany : List UnitText → Option UnitText → Piece → Type 0
IsOneTooMany us None (pieces.Unit name) = (has_unit us name ≡ false) × (1000 ≤ length us)
IsOneTooMany us (Some u) (pieces.Statement a) = (uses (has_field u.fields) a ≡ true) × (10000 ≤ length u.statements)
IsOneTooMany _ _ _ = ⊥

-- the piece on line n has the fault
abbrev pub PieceFault : ℕ → List UnitText → Option UnitText → Piece → UnitFault → Type 0
PieceFault n us o piece (BadStatement m) = (m ≡ n) × IsMisplaced o piece
PieceFault n us o piece (BadField m) = (m ≡ n) × NamesBadField o piece
PieceFault n us o piece (LabelTwice m) = (m ≡ n) × RepeatsLabel o piece
PieceFault n us o piece (NoEnd m) = (m ≡ n) × MeetsUnit o piece
PieceFault n us o piece (UnitTwice m) = (m ≡ n) × RepeatsUnit us o piece
PieceFault n us o piece (TooLong m) = (m ≡ n) × IsOneTooMany us o piece
PieceFault n us o piece Memory = ⊥

-- ---- the first fault of a text

-- the line spells no piece, or one with the fault
abbrev pub LineFault : ℕ → List ℕ → List UnitText → Option UnitText → UnitFault → Type 0
LineFault n line us o fault =
    (is_passed line ≡ false) × ((((piece : Piece) → SpellsPiece line piece → ⊥) × (fault ≡ BadStatement n)) ⊎ ((piece : Piece) × SpellsPiece line piece × PieceFault n us o piece fault))

-- a unit is open where the text ends
abbrev pub EndFault : ℕ → Option UnitText → UnitFault → Type 0
EndFault n None fault = ⊥
EndFault n (Some u) fault = fault ≡ NoEnd n

-- the first of these lines, which has number n, or the end of the text has the fault
abbrev pub FaultNext : ℕ → List (List ℕ) → List UnitText → Option UnitText → UnitFault → Type 0
FaultNext n [] us o fault = EndFault n o fault
FaultNext n (line ∷ rest) us o fault = LineFault n line us o fault

-- after lines without a fault, a line or the end of the text has the fault
pub record FirstFault (all : List (List ℕ)) (fault : UnitFault) : Type 0 where
  pub above : List (List ℕ)
  pub below : List (List ℕ)
  pub parts : all ≡ above ++ below
  pub ps : List Placed
  pub spelled : ArePieces 1 above ps
  pub us : List UnitText
  pub open_unit : Option UnitText
  pub stand : Stand us open_unit ps
  pub next : FaultNext (length above + 1) below us open_unit fault

abbrev pub HasTextFault : List ℕ → UnitFault → Type 0
HasTextFault text fault = ((longest_text < length text) × (fault ≡ TooLong 0)) ⊎ ((length text ≤ longest_text) × FirstFault (lines text) fault)

-- ---- what is printed of a fault

-- the line, counted from 1; a text that is too long has line 0
abbrev pub line_of : UnitFault → ℕ
line_of (BadStatement line) = line
line_of (BadField line) = line
line_of (LabelTwice line) = line
line_of (NoEnd line) = line
line_of (UnitTwice line) = line
line_of (TooLong line) = line
line_of Memory = 0

abbrev pub name_of : UnitFault → List ℕ
name_of (BadStatement line) = codes "BadStatement"
name_of (BadField line) = codes "BadField"
name_of (LabelTwice line) = codes "LabelTwice"
name_of (NoEnd line) = codes "NoEnd"
name_of (UnitTwice line) = codes "UnitTwice"
name_of (TooLong line) = codes "TooLong"
name_of Memory = codes "Memory"
