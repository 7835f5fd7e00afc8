-- What a statement reads of its unit run, and how it stores bytes in a field.
use Rattle.std.specs.Prelude.{ℕ, Bool, true, false, List, [], take, drop, Option, Some, None, codes}
use Rattle.kd_base.specs.Text.{padded}
use Rattle.kdcs_types.specs.declared.call.Code.{Code}
use Rattle.kdcs_types.specs.declared.call.Code.TheVariants.{Done, K01, K02, K03, K04, K05, K06, K07, K08, K09, K10, K11}
use Rattle.kdcs_types.specs.declared.run_state.RunState.{RunState}
use Rattle.application_types.specs.declared.unit_types.action.HeaderName.{HeaderName}
use Rattle.application_types.specs.declared.unit_types.action.HeaderName.TheVariants.{Benid, Logter, Tacvg, Tacal, Crccc, Rlm}
use Rattle.application_types.specs.declared.unit_types.action.Operand.{Operand}
use Rattle.application_types.specs.declared.unit_types.action.Operand.TheVariants as read
use Rattle.application_types.specs.declared.unit_types.unit.Field.{Field}
use Rattle.application_types.specs.UnitText.{UnitText, field_named}
use Rattle.kd_base.specs.Text.{trim_end}
use Rattle.abstract_monitor.specs.Contents.{fitted, overlaid, in_digits}

-- the three bytes of a code
abbrev pub code_text : Code → List ℕ
code_text Done = codes "000"
code_text K01 = codes "K01"
code_text K02 = codes "K02"
code_text K03 = codes "K03"
code_text K04 = codes "K04"
code_text K05 = codes "K05"
code_text K06 = codes "K06"
code_text K07 = codes "K07"
code_text K08 = codes "K08"
code_text K09 = codes "K09"
code_text K10 = codes "K10"
code_text K11 = codes "K11"

-- names in 8 bytes, the last code in 3, the last length in 5 digits
abbrev pub header_value : RunState → HeaderName → List ℕ
header_value run Benid = padded run.header.benid
header_value run Logter = padded run.header.logter
header_value run Tacvg = padded run.header.tacvg
header_value run Tacal = padded run.header.tacal
header_value run Crccc = code_text run.code
header_value run Rlm = in_digits 5 run.length

-- KB, or SPAB
abbrev pub run_area : RunState → Bool → List ℕ
run_area run true = run.spab
run_area run false = run.kb

-- the bytes of a field
abbrev pub field_bytes : RunState → Option Field → List ℕ
field_bytes run None = []
field_bytes run (Some f) = take f.length (drop f.offset (run_area run f.spab))

-- the length of a field
abbrev pub field_length : Option Field → ℕ
field_length None = 0
field_length (Some f) = f.length

-- the bytes of an operand
unfoldable pub value_of : UnitText → RunState → Operand → List ℕ
value_of unit run (read.Field name) = field_bytes run (field_named unit name)
value_of unit run (read.Literal bytes) = bytes
value_of unit run (read.Digits bytes) = bytes
value_of unit run (read.Header name) = header_value run name
value_of unit run (read.Trim name) = trim_end (field_bytes run (field_named unit name))

-- one of the two areas with bytes put over it from a place on
abbrev pub written : RunState → Bool → ℕ → List ℕ → RunState
written run true at bytes = record run { spab = overlaid at bytes run.spab }
written run false at bytes = record run { kb = overlaid at bytes run.kb }

-- a field gets bytes, filled with spaces or cut
abbrev pub stored_in : RunState → Option Field → List ℕ → RunState
stored_in run None bytes = run
stored_in run (Some f) bytes = written run f.spab f.offset (fitted f.length bytes)

-- the field of this name gets bytes
unfoldable pub stored : UnitText → RunState → List ℕ → List ℕ → RunState
stored unit run name bytes = stored_in run (field_named unit name) bytes
