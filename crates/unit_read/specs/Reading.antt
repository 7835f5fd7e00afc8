-- Reading a units text, with the first fault.
use Rattle.std.specs.Prelude.{ℕ, ◌+◌, nat_lt, List, [], ◌∷◌, length, Option, Some, None, Result, Ok, Err, if◌then◌else◌, option_and_then}
use Rattle.std.specs.Str.Lines.{lines}
use Rattle.kd_base.specs.Limits.{longest_text}
use Rattle.kd_base.specs.Tools.{◌>>=◌}
use Rattle.application_types.specs.UnitText.{UnitText}
use Rattle.unit_read.specs.declared.fault.UnitFault.{UnitFault}
use Rattle.unit_read.specs.declared.fault.UnitFault.TheVariants.{BadStatement, TooLong}
use Rattle.unit_read.specs.declared.piece.Piece.{Piece}
use Rattle.unit_read.specs.Lines.{is_passed}
use Rattle.unit_read.specs.Words.{words_of}
use Rattle.unit_read.specs.Pieces.{piece_of}
use Rattle.unit_read.specs.Units.{State, nothing_read, stepped, finished}

-- the piece that a line is
abbrev pub piece_in : List ℕ → Option Piece
piece_in line = option_and_then piece_of (words_of line)

abbrev pub piece_step : ℕ → Option Piece → State → Result State UnitFault
piece_step n None s = Err (BadStatement n)
piece_step n (Some piece) s = stepped n piece s

-- one more line
abbrev pub line_step : ℕ → List ℕ → State → Result State UnitFault
line_step n line s = if is_passed line then Ok s else piece_step n (piece_in line) s

-- the lines from number n on
abbrev pub read_from : ℕ → List (List ℕ) → State → Result (List UnitText) UnitFault
read_from n [] s = finished n s
read_from n (line ∷ rest) s = line_step n line s >>= read_from (n + 1) rest

abbrev pub read_text : List ℕ → Result (List UnitText) UnitFault
read_text text = if nat_lt longest_text (length text) then Err (TooLong 0) else read_from 1 (lines text) nothing_read
