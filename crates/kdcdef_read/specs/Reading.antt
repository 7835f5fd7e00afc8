-- What is left to read of raw statements, from a place on.
use Rattle.std.specs.Prelude.{ℕ, ◌≤◌, List, [], ◌∷◌, length, drop, Option, Some, None, Result, Ok}
use Rattle.kd_base.specs.Limits.{longest_text}
use Rattle.texts.specs.declared.kdcdef_lex.statement.RawStatement.{RawStatement}
use Rattle.texts.specs.Bounds.{LinesUpTo, LinesFrom, operand_count}
use Rattle.application_types.specs.declared.kdcdef_types.statement.Statement.{Statement}
use Rattle.kdcdef_read.specs.declared.fault.ReadFault.{ReadFault}
use Rattle.kdcdef_read.specs.declared.statement.Progress.{Progress}
use Rattle.kdcdef_read.specs.Left.{Left}
use Rattle.kdcdef_read.specs.Steps.{with_front, read_from}

abbrev pub left_of : Progress → ℕ → List RawStatement → Left
left_of progress at raw = record { count = length (drop at raw); next = progress.next; read = read_from progress (drop at raw) }

-- the statements from this place on are within the bounds of a text, and behind those that were read
pub record IsWithinBounds (progress : Progress) (at : ℕ) (raw : List RawStatement) : Type 0 where
  pub lines : LinesUpTo 16777217 (drop at raw)
  pub operands : operand_count (drop at raw) ≤ longest_text
  pub order : LinesFrom progress.next (drop at raw)

-- what was read, with a statement before what is read after it; at the end nothing is
abbrev pub followed : Option Statement → Result (List Statement) ReadFault → Result (List Statement) ReadFault
followed None read = Ok []
followed (Some s) read = with_front (s ∷ []) read
