-- How many lines and operands the statements of a text can have.
use Rattle.std.specs.Prelude.{ℕ, ◌+◌, ◌≤◌, List, [], ◌∷◌, length}
use Rattle.kd_base.specs.Limits.{longest_text}
use Rattle.texts.specs.declared.kdcdef_lex.statement.RawStatement.{RawStatement}

-- each statement is at this line or before it
abbrev pub LinesUpTo : ℕ → List RawStatement → Type 0
LinesUpTo last [] = Unit {0}
LinesUpTo last (s ∷ ss) = (s.line ≤ last) × LinesUpTo last ss

-- each statement is at a line from this one on, and behind those before it
abbrev pub LinesFrom : ℕ → List RawStatement → Type 0
LinesFrom first [] = Unit {0}
LinesFrom first (s ∷ ss) = (first ≤ s.line) × LinesFrom (s.line + 1) ss

-- how many operands the statements have together
abbrev pub operand_count : List RawStatement → ℕ
operand_count [] = 0
operand_count (s ∷ ss) = length s.operands + operand_count ss

-- what the statements of every text keep
pub record AreWithinBounds (ss : List RawStatement) : Type 0 where
  pub lines : LinesUpTo 16777217 ss
  pub order : LinesFrom 1 ss
  pub operands : operand_count ss ≤ longest_text
