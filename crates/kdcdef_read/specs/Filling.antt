-- Operands read one after another into slots, as the reader does.
use Rattle.std.specs.Prelude.{◌+◌, Bool, true, false, List, [], ◌∷◌, Option, Some, None, Result, Ok, Err, if◌then◌else◌, option_and_then, slice_set, replicate, unwrap_or}
use Rattle.std.specs.List.{slice_get}
use Rattle.std.specs.Option.{option_or}
use Rattle.kd_base.specs.Tools.{◌>>=◌}
use Rattle.texts.specs.declared.kdcdef_lex.statement.RawOperand.{RawOperand}
use Rattle.kdcdef_read.specs.declared.fault.Cause.{Cause}
use Rattle.kdcdef_read.specs.declared.fault.Cause.TheVariants.{OperandTwice}
use Rattle.kdcdef_read.specs.declared.operands.Given.{Given}
use Rattle.kdcdef_read.specs.declared.words.Keyword.{Keyword}
use Rattle.kdcdef_read.specs.declared.words.Key.{Key}
use Rattle.kdcdef_read.specs.declared.rows.Row.{Row}
use Rattle.kdcdef_read.specs.declared.value.Value.{Value}
use Rattle.kdcdef_read.specs.Words.{place_of}
use Rattle.kdcdef_read.specs.Table.{row_of}
use Rattle.kdcdef_read.specs.Values.{value_of}
use Rattle.kdcdef_read.specs.Operands.{operand_key, default_in}

-- what was changed in place, where nothing failed
abbrev pub after : {X : Type 0} → Result X Cause → Given → Result Given Cause
after (Ok x) given = Ok given
after (Err cause) given = Err cause

-- what is in the slot of a key
abbrev pub slot_at : List (Option Value) → Key → Option Value
slot_at slots key = option_and_then (λ (slot : Option Value). slot) (slice_get slots (place_of key))

-- whether the key was given
abbrev pub is_taken : List Bool → Key → Bool
is_taken taken key = unwrap_or (slice_get taken (place_of key)) false

-- what is answered for a key: what is in its slot, or the default
abbrev pub answer : Keyword → List (Option Value) → Key → Option Value
answer keyword slots key = option_or (slot_at slots key) (default_in (row_of keyword key))

abbrev pub answers : Keyword → List (Option Value) → Key → Option Value
answers keyword slots = λ key. answer keyword slots key

-- with a value for a key
abbrev pub put : Given → Key → Value → Given
put given key value = record {
  slots = slice_set given.slots (place_of key) (Some value);
  taken = slice_set given.taken (place_of key) true;
  passed = given.passed;
}

-- with what an operand with this row says
abbrev pub with_row : Given → Key → Row → RawOperand → Result Given Cause
with_row given key row o =
    if is_taken given.taken key then Err OperandTwice else (value_of row.kind o.value >>= λ value. Ok (put given key value))

-- with one more operand passed over
abbrev pub pass : Given → Given
pass given = record { slots = given.slots; taken = given.taken; passed = given.passed + 1 }

abbrev pub with_kept : Given → Key → Option Row → RawOperand → Result Given Cause
with_kept given key None o = Ok (pass given)
with_kept given key (Some row) o = with_row given key row o

abbrev pub with_key : Keyword → Given → Option Key → RawOperand → Result Given Cause
with_key keyword given None o = Ok (pass given)
with_key keyword given (Some key) o = with_kept given key (row_of keyword key) o

abbrev pub with_operand : Keyword → Bool → Given → RawOperand → Result Given Cause
with_operand keyword first given o = with_key keyword given (operand_key first o) o

-- with what the operands say, from left to right
abbrev pub with_operands : Keyword → Bool → Given → List RawOperand → Result Given Cause
with_operands keyword first given [] = Ok given
with_operands keyword first given (o ∷ os) = with_operand keyword first given o >>= λ next. with_operands keyword false next os

abbrev pub nothing_given : List Bool → Given
nothing_given taken = record { slots = replicate 28 None; taken = taken; passed = 0 }

-- what the operands of a statement give, these keys being taken
abbrev pub read_operands : Keyword → List Bool → List RawOperand → Result Given Cause
read_operands keyword taken os = with_operands keyword true (nothing_given taken) os
