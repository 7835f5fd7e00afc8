-- Finding the first fault.
use Rattle.std.specs.Prelude.{ℕ, ◌+◌, nat_le, is_some, is_none, if◌then◌else◌, List, Option, Some, None, fold, find, option_and_then}
use Rattle.std.specs.Option.{option_map, option_or}
use Rattle.kd_base.specs.FirstFaults.{earlier_by}
use Rattle.application_types.specs.declared.kdcdef_types.entry.TacEntry.{TacEntry}
use Rattle.application_types.specs.declared.kdcdef_types.limits.Limits.{Limits}
use Rattle.application_types.specs.Generation.{Generated}
use Rattle.application_types.specs.declared.unit_types.action.UnitStatement.{UnitStatement}
use Rattle.application_types.specs.declared.unit_types.unit.Field.{Field}
use Rattle.application_types.specs.UnitText.{UnitText, jump_of, label_place}
use Rattle.application_check.specs.declared.unit_check.fault.FitFault.{FitFault}
use Rattle.application_check.specs.declared.unit_check.fault.FitFault.TheVariants.{NoUnit, NoLabel, FieldPastArea, LiteralFollowUp}
use Rattle.application_types.specs.Fitted.{unit_named, area_len, literal_follow_up, tac_in}
use Rattle.application_check.specs.FitFaults.{line_of, number_of}

-- the first of two faults that were found
abbrev pub earlier : Option FitFault → Option FitFault → Option FitFault
earlier a b = earlier_by line_of number_of a b

-- the first fault of all items
abbrev pub first_of : {A : Type 0} → (A → Option FitFault) → List A → Option FitFault
first_of {A} fault_of items = fold (λ (first : Option FitFault) (item : A). earlier first (fault_of item)) None items

abbrev pub field_fault : Limits → Field → Option FitFault
field_fault limits f = if nat_le (f.offset + f.length) (area_len limits f.spab) then None else Some (FieldPastArea f.line)

abbrev pub fields_fault : Limits → List Field → Option FitFault
fields_fault limits fields = first_of (field_fault limits) fields

abbrev pub label_fault : UnitText → UnitStatement → Option FitFault
label_fault unit s = option_and_then (λ (label : List ℕ). if is_some (label_place unit label) then None else Some (NoLabel s.line)) (jump_of s.action)

abbrev pub follow_up_fault : List (List ℕ × TacEntry) → UnitStatement → Option FitFault
follow_up_fault tacs s = option_and_then (λ (bytes : List ℕ). if is_some (tac_in tacs bytes) then None else Some (LiteralFollowUp s.line)) (literal_follow_up s.action)

abbrev pub statement_fault : List (List ℕ × TacEntry) → UnitText → UnitStatement → Option FitFault
statement_fault tacs unit s = earlier (label_fault unit s) (follow_up_fault tacs s)

abbrev pub statements_fault : List (List ℕ × TacEntry) → UnitText → Option FitFault
statements_fault tacs unit = first_of (statement_fault tacs unit) unit.statements

abbrev pub unit_fault : Generated → UnitText → Option FitFault
unit_fault g unit = earlier (fields_fault g.limits unit.fields) (statements_fault g.tacs unit)

abbrev pub units_fault : Generated → List UnitText → Option FitFault
units_fault g units = first_of (unit_fault g) units

-- the first PROGRAM statement without a unit
abbrev pub lacking : List UnitText → List (List ℕ × ℕ) → Option FitFault
lacking units programs = option_map (λ (p : List ℕ × ℕ). NoUnit p.1) (find (λ (p : List ℕ × ℕ). is_none (unit_named units p.0)) programs)

abbrev pub fit_fault : Generated → List UnitText → Option FitFault
fit_fault g units = option_or (lacking units g.programs) (units_fault g units)
