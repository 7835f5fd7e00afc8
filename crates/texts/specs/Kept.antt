-- Statements kept as their bytes.
use Rattle.std.specs.Prelude.{ℕ, ◌≤◌, List, length, map, slice_range, IsTrue, is_some}
use Rattle.std.specs.List.{All}
use Rattle.texts.specs.declared.kdcdef_lex.statements.Place.{Place}
use Rattle.texts.specs.declared.kdcdef_lex.statement.RawStatement.{RawStatement}
use Rattle.texts.specs.Parsing.{spelled_at, statement_in}

-- the bytes at a place
abbrev pub bytes_at : List ℕ → Place → List ℕ
bytes_at bytes p = slice_range bytes p.from p.end

-- the statements at these places
abbrev pub statements_at : List ℕ → List Place → List RawStatement
statements_at bytes places = map (λ (p : Place). statement_in p.line (bytes_at bytes p)) places

-- a statement is at this place
pub record IsSpelled (bytes : List ℕ) (p : Place) : Type 0 where
  pub from : p.from ≤ p.end
  pub end : p.end ≤ length bytes
  pub spelled : IsTrue (is_some (spelled_at p.line (bytes_at bytes p)))

abbrev pub AreSpelled : List ℕ → List Place → Type 0
AreSpelled bytes places = All (λ (p : Place). IsSpelled bytes p) places
