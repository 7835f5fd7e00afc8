-- ADD, SUB, MUL and DIV, as far as 64 bits go.
use Rattle.std.specs.Prelude.{ℕ, ◌^◌, List, Option, None, Some, nat_lt, if◌then◌else◌}
use Rattle.kdcs_types.specs.declared.run_state.RunState.{RunState}
use Rattle.application_types.specs.UnitText.{UnitText}
use Rattle.application_types.specs.declared.unit_types.action.Operand.{Operand}
use Rattle.application_types.specs.declared.unit_types.unit.Field.{Field}
use Rattle.abstract_monitor.specs.Contents.{number_of}
use Rattle.abstract_monitor.specs.Fields.{field_bytes, stored_in, value_of}
use Rattle.abstract_monitor.specs.Statement.{calculated, sum_of, difference_of, product_of, quotient_of}
use Rattle.service_parts.specs.declared.unit_step.number.Calculation.{Calculation}
use Rattle.service_parts.specs.declared.unit_step.number.Calculation.TheVariants.{Sum, Difference, Product, Quotient}

abbrev pub calculation_of : Calculation → ℕ → ℕ → Option ℕ
calculation_of Sum a b = sum_of a b
calculation_of Difference a b = difference_of a b
calculation_of Product a b = product_of a b
calculation_of Quotient a b = quotient_of a b

-- a result of 64 bits
abbrev pub limited : Option ℕ → Option ℕ
limited None = None
limited (Some n) = if nat_lt n (2 ^ 64) then Some n else None

-- a field gets a result, where there is one
abbrev pub with_result : RunState → Field → Option (List ℕ) → RunState
with_result run f None = run
with_result run f (Some bytes) = stored_in run (Some f) bytes

-- the result of a field's own number and the operand's, in so many digits as the field has, where there is one that fits
abbrev pub result_in : UnitText → RunState → Field → Calculation → Operand → Option (List ℕ)
result_in unit run field c operand =
    calculated field.length (calculation_of c) (number_of (field_bytes run (Some field))) (number_of (value_of unit run operand))
