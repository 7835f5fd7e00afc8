-- Cells that hold a header name's bytes.
use Rattle.std.specs.Prelude.{◌≡◌, ◌≤◌, take}
use Rattle.kdcs_types.specs.declared.run_state.RunState.{RunState}
use Rattle.application_types.specs.declared.unit_types.action.Operand.{Operand}
use Rattle.application_types.specs.declared.unit_types.action.Operand.TheVariants as read
use Rattle.abstract_monitor.specs.Fields.{header_value}
use Rattle.service_parts.specs.declared.unit_step.operand.Cells.{Cells}

-- where the operand is a header name, its bytes
abbrev pub HoldsHeader : RunState → Operand → Cells → Type 0
HoldsHeader run (read.Field name) cells = Unit {0}
HoldsHeader run (read.Literal bytes) cells = Unit {0}
HoldsHeader run (read.Digits bytes) cells = Unit {0}
HoldsHeader run (read.Header name) cells = (cells.used ≤ 8) × (take cells.used cells.bytes ≡ header_value run name)
HoldsHeader run (read.Trim name) cells = Unit {0}
