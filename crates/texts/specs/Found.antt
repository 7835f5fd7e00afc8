-- What reading finds, against what a text spells.
use Rattle.std.specs.Prelude.{◌≡◌, ℕ, List, Ok}
use Rattle.texts.specs.declared.kdcdef_lex.statement.RawStatement.{RawStatement}
use Rattle.texts.specs.Reading.{read_text}
use Rattle.texts.specs.Spelling.{SpellsStatements}

-- the text spells the statements that reading it gives
abbrev pub ReadStatementsAreSpelled : Type 0
ReadStatementsAreSpelled = (text : List ℕ) (ss : List RawStatement) → read_text text ≡ Ok ss → SpellsStatements text ss
