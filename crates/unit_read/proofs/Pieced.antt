-- A line and the piece that it spells.
use Rattle.std.proofs.Common.{◌≡◌, ℕ, false, List, Some, ap, ◌∙◌}
use Rattle.std.specs.Prelude.{option_and_then}
use Rattle.kd_base.specs.ToolsLaws.{and_some}
use Rattle.unit_read.specs.declared.piece.Piece.{Piece}
use Rattle.unit_read.specs.Lines.{is_passed}
use Rattle.unit_read.specs.Words.{words_of}
use Rattle.unit_read.specs.Pieces.{piece_of}
use Rattle.unit_read.specs.Reading.{piece_in}
use Rattle.unit_read.specs.Grammar.{SpellsPiece}
use Rattle.unit_read.proofs.WordLists.{words_are, are_words}
use Rattle.unit_read.proofs.Pieces.{piece_is, piece_again}

pub line_is : (line : List ℕ) (p : Piece) → is_passed line ≡ false → piece_in line ≡ Some p → SpellsPiece line p
line_is line p stands e =
    let a = and_some piece_of (words_of line) p e in
    (stands, a.0, words_are line a.0 a.1, piece_is a.0 p a.2)

pub line_again : (line : List ℕ) (p : Piece) → SpellsPiece line p → piece_in line ≡ Some p
line_again line p h = ap (option_and_then piece_of) (are_words line h.1 h.2) ∙ piece_again p h.1 h.3
