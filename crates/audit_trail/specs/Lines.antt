-- What one line of a trail says.
use Rattle.std.specs.Prelude.{ℕ, Bool, ◌||◌, if◌then◌else◌, List, [], ◌∷◌, codes, find, bytes_eq, Option, Some, None, option_and_then}
use Rattle.std.specs.List.{list_all, slice_split}
use Rattle.std.specs.Option.{option_map}
use Rattle.std.specs.Result.{result_ok}
use Rattle.hex.specs.Hex.{decode_of, decode_sized}
use Rattle.kd_base.specs.Text.{is_between, is_digit, is_space, name_of, decimal_of}
use Rattle.kd_records.specs.declared.key.RecordKey.{RecordKey}
use Rattle.kdcs_types.specs.declared.act.Change.TheVariants.{Set, Remove}
use Rattle.kdcs_types.specs.declared.act.Row.{Row}
use Rattle.kdcs_types.specs.declared.key.Key.{Key}
use Rattle.kdcs_types.specs.declared.service.Settled.{Settled}
use Rattle.record_codec.specs.RowReadings.{key_read, row_read}
use Rattle.audit_trail.specs.declared.entry.By.TheVariants as made
use Rattle.audit_trail.specs.declared.keyword.Keyword.{Keyword}
use Rattle.audit_trail.specs.declared.keyword.Keyword.TheVariants as keywords
use Rattle.audit_trail.specs.declared.keyword.TheConstants.{KEYWORDS}
use Rattle.audit_trail.specs.declared.line.Line.{Line}
use Rattle.audit_trail.specs.declared.line.Line.TheVariants as says
use Rattle.audit_trail.specs.KeptReadings.{kept_read}

-- ---- words

-- the words of a line, which one space parts
abbrev pub words : List ℕ → List (List ℕ)
words line = slice_split is_space line

-- one word alone
abbrev pub one : List (List ℕ) → Option (List ℕ)
one [] = None
one (word ∷ []) = Some word
one (word ∷ next ∷ rest) = None

abbrev pub two : List (List ℕ) → Option (List ℕ × List ℕ)
two [] = None
two (word ∷ rest) = option_map (λ last. (word, last)) (one rest)

abbrev pub three : List (List ℕ) → Option (List ℕ × List ℕ × List ℕ)
three [] = None
three (word ∷ rest) = option_map (λ p. (word, p.0, p.1)) (two rest)

-- ---- hexadecimal

-- a digit in lower case
abbrev pub is_hex_digit : ℕ → Bool
is_hex_digit b = is_digit b || is_between 97 102 b

-- the bytes of pairs of digits
abbrev pub bytes_of : List ℕ → Option (List ℕ)
bytes_of word = if list_all is_hex_digit word then result_ok (decode_of word) else None

-- so many bytes
abbrev pub so_many_bytes : ℕ → List ℕ → Option (List ℕ)
so_many_bytes n word = if list_all is_hex_digit word then result_ok (decode_sized word n) else None

-- at least one byte
abbrev pub some_bytes : List ℕ → Option (List ℕ)
some_bytes [] = None
some_bytes (digit ∷ word) = bytes_of (digit ∷ word)

-- the bytes, or `-` for none
abbrev pub value_of : List ℕ → Option (List ℕ)
value_of word = if bytes_eq word (codes "-") then Some [] else some_bytes word

-- ---- what the words of a line say

abbrev pub two_numbers : List ℕ × List ℕ → Option (ℕ × ℕ)
two_numbers p = option_and_then (λ clock. option_map (λ next. (clock, next)) (decimal_of p.1)) (decimal_of p.0)

abbrev pub kept_of : List ℕ → Option Settled
kept_of word = option_and_then kept_read (bytes_of word)

-- the kind of a row, from 1 to 6
abbrev pub kind_by : ℕ → Option ℕ
kind_by n = if is_between 1 6 n then Some n else None

abbrev pub kind_of : List ℕ → Option ℕ
kind_of word = option_and_then kind_by (decimal_of word)

abbrev pub with_bytes : ℕ → List ℕ → RecordKey
with_bytes kind bytes = record { kind = kind; bytes = bytes }

-- the kind and the 24 bytes of a key
abbrev pub record_key_of : List ℕ × List ℕ → Option RecordKey
record_key_of p = option_and_then (λ kind. option_map (with_bytes kind) (so_many_bytes 24 p.1)) (kind_of p.0)

abbrev pub key_of : List ℕ × List ℕ → Option Key
key_of p = option_and_then key_read (record_key_of p)

abbrev pub row_of : List ℕ × List ℕ × List ℕ → Option Row
row_of p = option_and_then (λ k. option_and_then (λ value. row_read (k, value)) (value_of p.2)) (record_key_of (p.0, p.1))

abbrev pub end_of : List (List ℕ) → Option Line
end_of [] = Some says.End
end_of (word ∷ rest) = None

abbrev pub started : ℕ × ℕ → Line
started p = says.Start p.0 p.1

abbrev pub committed : ℕ × ℕ → Line
committed p = says.Commit p.0 p.1

abbrev pub ticked : ℕ → Line
ticked ticks = says.Made (made.Tick ticks)

abbrev pub shown : List ℕ → Line
shown lterm = says.Made (made.Shown lterm)

abbrev pub settled : Settled → Line
settled kept = says.Made (made.Transaction kept)

abbrev pub set : Row → Line
set row = says.Change (Set row)

abbrev pub removed : Key → Line
removed key = says.Change (Remove key)

abbrev pub begun : List ℕ → Line
begun fingerprint = says.Trail fingerprint

-- what is said by a keyword and the words after it
abbrev pub said : Keyword → List (List ℕ) → Option Line
said keywords.Trail rest = option_map begun (option_and_then (so_many_bytes 32) (one rest))
said keywords.Start rest = option_map started (option_and_then two_numbers (two rest))
said keywords.Tick rest = option_map ticked (option_and_then decimal_of (one rest))
said keywords.Shown rest = option_map shown (option_and_then name_of (one rest))
said keywords.Transaction rest = option_map settled (option_and_then kept_of (one rest))
said keywords.Commit rest = option_map committed (option_and_then two_numbers (two rest))
said keywords.Set rest = option_map set (option_and_then row_of (three rest))
said keywords.Remove rest = option_map removed (option_and_then key_of (two rest))
said keywords.End rest = end_of rest

abbrev pub spelling : Keyword → List ℕ
spelling keywords.Trail = codes "TRAIL"
spelling keywords.Start = codes "START"
spelling keywords.Tick = codes "N"
spelling keywords.Shown = codes "O"
spelling keywords.Transaction = codes "T"
spelling keywords.Commit = codes "C"
spelling keywords.Set = codes "S"
spelling keywords.Remove = codes "D"
spelling keywords.End = codes "END"

-- the keyword that is spelled so
abbrev pub keyword_of : List ℕ → Option Keyword
keyword_of word = find (λ keyword. bytes_eq word (spelling keyword)) KEYWORDS

abbrev pub said_by : List (List ℕ) → Option Line
said_by [] = None
said_by (word ∷ rest) = option_and_then (λ keyword. said keyword rest) (keyword_of word)

-- what a line says, where it is a line of a trail
abbrev pub line_in : List ℕ → Option Line
line_in line = said_by (words line)
