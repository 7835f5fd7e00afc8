-- Units that fit a generation.
use Rattle.std.specs.Prelude.{◌≡◌, ℕ, ◌+◌, ◌≤◌, Bool, if◌then◌else◌, List, Option, Some, None, IsSome, IfSome, All, bytes_eq, find, option_and_then}
use Rattle.std.specs.BTreeMap.{BTreeMap, get_by}
use Rattle.std.specs.Cmp.Lexicographic.{slice_cmp}
use Rattle.std.specs.List.{position_from}
use Rattle.std.specs.Ordering.{nat_cmp}
use Rattle.kd_base.specs.Text.{trim_end, name_of}
use Rattle.application_types.specs.declared.kdcdef_types.entry.TacEntry.{TacEntry}
use Rattle.application_types.specs.declared.kdcdef_types.limits.Limits.{Limits}
use Rattle.application_types.specs.Generation.{Generated, entry_of}
use Rattle.application_types.specs.declared.unit_types.action.Action.{Action}
use Rattle.application_types.specs.declared.unit_types.action.Action.TheVariants as action
use Rattle.application_types.specs.declared.unit_types.action.Operand.TheVariants.{Literal}
use Rattle.application_types.specs.declared.unit_types.action.UnitStatement.{UnitStatement}
use Rattle.application_types.specs.declared.unit_types.unit.Field.{Field}
use Rattle.application_types.specs.Index.{or_first}
use Rattle.application_types.specs.UnitText.{UnitText, KnowsItsLabels, IsSpellable}

-- the units in their order, and what they were fitted to
pub record FittedUnits : Type 0 where
  pub units : List UnitText
  pub limits : Limits
  pub tacs : List (List ℕ × TacEntry)

-- the first unit of a name
abbrev pub unit_named : List UnitText → List ℕ → Option UnitText
unit_named units name = find (λ (u : UnitText). bytes_eq name u.name) units

-- the unit that a TAC runs
abbrev pub unit_of : FittedUnits → List ℕ → Option UnitText
unit_of fitted tac = option_and_then (λ (t : TacEntry). unit_named fitted.units t.program) (entry_of fitted.tacs tac)

-- the bytes of SPAB or of KB
abbrev pub area_len : Limits → Bool → ℕ
area_len limits spab = if spab then limits.spab else limits.kb

-- a field lies inside its area
abbrev pub IsInside : Limits → Field → Type 0
IsInside limits f = f.offset + f.length ≤ area_len limits f.spab

-- the TAC that bytes name, with or without spaces at their end
abbrev pub tac_in : List (List ℕ × TacEntry) → List ℕ → Option TacEntry
tac_in tacs bytes = option_and_then (entry_of tacs) (name_of (trim_end bytes))

-- the follow-up of a PEND that is a literal
abbrev pub literal_follow_up : Action → Option (List ℕ)
literal_follow_up (action.Pend variant (Some (Literal bytes))) = Some bytes
literal_follow_up _ = None

-- what the step of a statement need not ask again
pub record IsFitted (limits : Limits) (tacs : List (List ℕ × TacEntry)) (unit : UnitText) : Type 0 where
  pub fields : All (IsInside limits) unit.fields
  pub labels : KnowsItsLabels unit
  pub follow_ups : All (λ (s : UnitStatement). IfSome (literal_follow_up s.action) (λ bytes. IsSome (tac_in tacs bytes))) unit.statements
  pub whole : IsSpellable unit

-- each unit is fitted, and each TAC has its unit
pub record AreFit (limits : Limits) (tacs : List (List ℕ × TacEntry)) (units : List UnitText) : Type 0 where
  pub fitted : All (IsFitted limits tacs) units
  pub named : All (λ (t : List ℕ × TacEntry). IsSome (unit_named units t.1.program)) tacs

-- these are all the units, and they fit the generation
pub record AreFittedTo (g : Generated) (all : List UnitText) (fitted : FittedUnits) : Type 0 where
  pub units : fitted.units ≡ all
  pub limits : fitted.limits ≡ g.limits
  pub tacs : fitted.tacs ≡ g.tacs
  -- each PROGRAM statement has its unit
  pub programs : All (λ (p : List ℕ × ℕ). IsSome (unit_named all p.0)) g.programs
  pub fit : AreFit g.limits g.tacs all

-- these units were fitted to this generation
pub record IsFit (g : Generated) (fitted : FittedUnits) : Type 0 where
  pub limits : fitted.limits ≡ g.limits
  pub tacs : fitted.tacs ≡ g.tacs

-- the name has this place, unless it had one before, and other names have what they had
abbrev pub PutsPlace : BTreeMap (List ℕ) ℕ → BTreeMap (List ℕ) ℕ → List ℕ → ℕ → Type 0
PutsPlace old new name place = (wanted : List ℕ) → get_by (slice_cmp nat_cmp wanted) new ≡ or_first (get_by (slice_cmp nat_cmp wanted) old) name place wanted

-- a map has the place of the first unit of each name, and no other name
abbrev pub AreUnitPlaces : BTreeMap (List ℕ) ℕ → List UnitText → Type 0
AreUnitPlaces places units = (name : List ℕ) → get_by (slice_cmp nat_cmp name) places ≡ position_from (λ (u : UnitText). bytes_eq name u.name) 0 units
