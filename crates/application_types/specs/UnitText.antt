-- A program unit, as contracts and the definitions of the monitor see it.
use Rattle.std.specs.Prelude.{ℕ, ◌≤◌, List, [], ◌∷◌, length, Option, None, Some, IsSome, IfSome, All, bytes_eq, find, slice_get, zero, suc}
use Rattle.std.specs.Map.{lookup}
use Rattle.application_types.specs.declared.unit_types.action.Action.{Action}
use Rattle.application_types.specs.declared.unit_types.action.Action.TheVariants as action
use Rattle.application_types.specs.declared.unit_types.action.Operand.{Operand}
use Rattle.application_types.specs.declared.unit_types.action.Operand.TheVariants.{Literal, Digits}
use Rattle.application_types.specs.declared.unit_types.action.UnitStatement.{UnitStatement}
use Rattle.application_types.specs.declared.unit_types.unit.Field.{Field as UnitField}

pub record UnitText : Type 0 where
  pub name : List ℕ
  pub line : ℕ
  pub fields : List UnitField
  -- each with the number, from 1, of the statement that it is before
  pub labels : List (List ℕ × ℕ)
  pub statements : List UnitStatement

-- the field of a name
abbrev pub field_named : UnitText → List ℕ → Option UnitField
field_named unit name = find (λ (f : UnitField). bytes_eq name f.name) unit.fields

-- the number of the statement that a label is before
abbrev pub label_place : UnitText → List ℕ → Option ℕ
label_place unit name = lookup (bytes_eq name) unit.labels

-- the statement at a place, counted from 1
abbrev pub statement_at : UnitText → ℕ → Option UnitStatement
statement_at unit zero = None
statement_at unit (suc n) = slice_get unit.statements n

-- the label that a statement may jump to
abbrev pub jump_of : Action → Option (List ℕ)
jump_of (action.If x relation y label) = Some label
jump_of (action.Jump label) = Some label
jump_of _ = None

-- each label that a statement may jump to is one of the unit's
abbrev pub KnowsItsLabels : UnitText → Type 0
KnowsItsLabels unit = All (λ (s : UnitStatement). IfSome (jump_of s.action) (λ label. IsSome (label_place unit label))) unit.statements

-- labels are before statements, which are counted from 1
abbrev pub LabelsFromOne : UnitText → Type 0
LabelsFromOne unit = (name : List ℕ) → IfSome (label_place unit name) (λ place. 1 ≤ place)

-- ---- operands

-- an operand that a statement may lack
abbrev pub operand_if_there : Option Operand → List Operand
operand_if_there None = []
operand_if_there (Some x) = x ∷ []

-- what a statement reads
abbrev pub operands_of : Action → List Operand
operands_of (action.Move f x) = x ∷ []
operands_of (action.Join f x y) = x ∷ y ∷ []
operands_of (action.Add f x) = x ∷ []
operands_of (action.Sub f x) = x ∷ []
operands_of (action.Mul f x) = x ∷ []
operands_of (action.Div f x) = x ∷ []
operands_of (action.If x relation y label) = x ∷ y ∷ []
operands_of (action.Jump label) = []
operands_of action.Init = []
operands_of (action.Mget f) = []
operands_of (action.Mput x) = x ∷ []
operands_of (action.Fget f) = []
operands_of (action.Fput to x) = to ∷ x ∷ []
operands_of (action.Dput to mode d h m s x) = to ∷ d ∷ h ∷ m ∷ s ∷ x ∷ []
operands_of (action.SgetGb name f) = name ∷ []
operands_of (action.SputGb name x) = name ∷ x ∷ []
operands_of (action.SrelGb name) = name ∷ []
operands_of (action.SgetKp name f) = name ∷ []
operands_of (action.SgetRl name f) = name ∷ []
operands_of (action.SputMs name x) = name ∷ x ∷ []
operands_of (action.SrelLb name) = name ∷ []
operands_of (action.SgetUs name f) = name ∷ []
operands_of (action.SputUs name x) = name ∷ x ∷ []
operands_of (action.Gtda name f) = name ∷ []
operands_of (action.Ptda name x) = name ∷ x ∷ []
operands_of (action.UnlkGb name) = name ∷ []
operands_of (action.UnlkUs name) = name ∷ []
operands_of (action.UnlkDa name) = name ∷ []
operands_of (action.Pend variant follow_up) = operand_if_there follow_up

-- a literal has at most 32,767 bytes, and a number 18 digits
abbrev pub IsShortOperand : Operand → Type 0
IsShortOperand (Literal bytes) = length bytes ≤ 32767
IsShortOperand (Digits bytes) = length bytes ≤ 18
IsShortOperand _ = Unit {0}

-- no operand is longer than an area may be
abbrev pub HasShortOperands : UnitText → Type 0
HasShortOperands unit = All (λ (s : UnitStatement). All IsShortOperand (operands_of s.action)) unit.statements

-- what a text can spell: labels count from one, and no operand is longer than an area may be
pub record IsSpellable (unit : UnitText) : Type 0 where
  pub labels : LabelsFromOne unit
  pub operands : HasShortOperands unit
