-- The lines of a text, by their numbers.
use Rattle.std.specs.Prelude.{ℕ, zero, suc, ◌-◌, List, [], length, take, drop, map, slice_get, unwrap_or}
use Rattle.std.specs.Char.{is_ascii_whitespace}
use Rattle.std.specs.List.{prefix_len, suffix_len}
use Rattle.std.specs.Str.Lines.{lines}

abbrev pub without_front : List ℕ → List ℕ
without_front line = drop (prefix_len is_ascii_whitespace line) line

abbrev pub without_back : List ℕ → List ℕ
without_back line = take (length line - suffix_len is_ascii_whitespace line) line

-- a line without blanks at its ends
abbrev pub trimmed : List ℕ → List ℕ
trimmed line = without_back (without_front line)

-- all lines of a text, in their order
abbrev pub source_of : List ℕ → List (List ℕ)
source_of text = map trimmed (lines text)

-- the line with this number, from 1; no bytes where there is none
abbrev pub line_at : (lines : List (List ℕ)) → (number : ℕ) → List ℕ
line_at lines zero = []
line_at lines (suc n) = unwrap_or (slice_get lines n) []
