-- A fault is in units that are to fit a generation.
use Rattle.std.specs.Prelude.{◌≡◌, ℕ, ◌+◌, ◌<◌, ◌⊎◌, Bool, true, false, List, [], ◌∷◌, codes, None, Result, IsTrue, IsSome, Any, All}
use Rattle.std.specs.Option.{IsSomeAnd}
use Rattle.kd_base.specs.FirstFaults.{GivesUnless, first_by}
use Rattle.application_types.specs.declared.kdcdef_types.entry.TacEntry.{TacEntry}
use Rattle.application_types.specs.declared.kdcdef_types.limits.Limits.{Limits}
use Rattle.application_types.specs.Generation.{Generated}
use Rattle.application_types.specs.declared.unit_types.action.UnitStatement.{UnitStatement}
use Rattle.application_types.specs.declared.unit_types.unit.Field.{Field}
use Rattle.application_types.specs.UnitText.{UnitText, jump_of, label_place}
use Rattle.application_check.specs.declared.unit_check.fault.FitFault.{FitFault}
use Rattle.application_check.specs.declared.unit_check.fault.FitFault.TheVariants.{NoUnit, NoLabel, FieldPastArea, LiteralFollowUp, Memory}
use Rattle.application_types.specs.Fitted.{FittedUnits, unit_named, area_len, literal_follow_up, tac_in}

-- the line of a fault, counted from 1
abbrev pub line_of : FitFault → ℕ
line_of (NoUnit n) = n
line_of (NoLabel n) = n
line_of (FieldPastArea n) = n
line_of (LiteralFollowUp n) = n
line_of Memory = 0

-- the name by which it is printed
abbrev pub name_of : FitFault → List ℕ
name_of (NoUnit n) = codes "NoUnit"
name_of (NoLabel n) = codes "NoLabel"
name_of (FieldPastArea n) = codes "FieldPastArea"
name_of (LiteralFollowUp n) = codes "LiteralFollowUp"
name_of Memory = codes "Memory"

-- its number among the faults of one line
abbrev pub number_of : FitFault → ℕ
number_of (NoUnit n) = 1
number_of (NoLabel n) = 2
number_of (FieldPastArea n) = 3
number_of (LiteralFollowUp n) = 4
number_of Memory = 0

abbrev pub is_memory : FitFault → Bool
is_memory Memory = true
is_memory _ = false

-- a stands on a lesser line, or on the same one with a number that is not greater
abbrev pub comes_first : FitFault → FitFault → Bool
comes_first a b = first_by line_of number_of a b

-- the field has the fault
abbrev pub FieldHas : Limits → Field → FitFault → Type 0
FieldHas limits f (FieldPastArea n) = (n ≡ f.line) × (area_len limits f.spab < f.offset + f.length)
FieldHas limits f _ = ⊥

-- the statement jumps to a label that is none of the unit's
abbrev pub LacksLabel : UnitText → UnitStatement → Type 0
LacksLabel unit s = IsSomeAnd (jump_of s.action) (λ label. label_place unit label ≡ None)

-- the statement names by a literal what is no TAC
abbrev pub NamesNoTac : List (List ℕ × TacEntry) → UnitStatement → Type 0
NamesNoTac tacs s = IsSomeAnd (literal_follow_up s.action) (λ bytes. tac_in tacs bytes ≡ None)

-- the statement has the fault
abbrev pub StatementHas : List (List ℕ × TacEntry) → UnitText → UnitStatement → FitFault → Type 0
StatementHas tacs unit s (NoLabel n) = (n ≡ s.line) × LacksLabel unit s
StatementHas tacs unit s (LiteralFollowUp n) = (n ≡ s.line) × NamesNoTac tacs s
StatementHas tacs unit s _ = ⊥

-- one of its fields or statements has the fault
abbrev pub UnitHas : Generated → UnitText → FitFault → Type 0
UnitHas g unit fault = Any (λ f. FieldHas g.limits f fault) unit.fields ⊎ Any (λ s. StatementHas g.tacs unit s fault) unit.statements

-- the fault is in the units, and none on a lesser line, nor one of a lesser number on its line
pub record IsFirstInUnits (g : Generated) (units : List UnitText) (fault : FitFault) : Type 0 where
  pub stands : Any (λ u. UnitHas g u fault) units
  pub first : (other : FitFault) → Any (λ u. UnitHas g u other) units → IsTrue (comes_first fault other)

-- of the PROGRAM statements, this is the line of the first without a unit
abbrev pub IsFirstWithout : List UnitText → List (List ℕ × ℕ) → ℕ → Type 0
IsFirstWithout units [] n = ⊥
IsFirstWithout units (p ∷ programs) n = ((unit_named units p.0 ≡ None) × (n ≡ p.1)) ⊎ (IsSome (unit_named units p.0) × IsFirstWithout units programs n)

-- each PROGRAM statement has its unit
abbrev pub HaveUnits : List UnitText → List (List ℕ × ℕ) → Type 0
HaveUnits units programs = All (λ (p : List ℕ × ℕ). IsSome (unit_named units p.0)) programs

-- the fault is there, and comes first
abbrev pub IsFirstFault : Generated → List UnitText → FitFault → Type 0
IsFirstFault g units (NoUnit n) = IsFirstWithout units g.programs n
IsFirstFault g units Memory = ⊥
IsFirstFault g units fault = HaveUnits units g.programs × IsFirstInUnits g units fault

-- what came back is this, unless memory ran out
abbrev pub Gives : Result FittedUnits FitFault → Result FittedUnits FitFault → Type 0
Gives answer wanted = GivesUnless is_memory answer wanted
