-- What a script says.
use Rattle.std.specs.Prelude.{ℕ, ◌+◌, Bool, true, false, not, ◌&&◌, ◌||◌, ◌==◌, nat_le, nat_lt, List, [], ◌∷◌, length, filter, count_by, Result, Ok, Err}
use Rattle.std.specs.List.{slice_split, list_all}
use Rattle.std.specs.Ordering.{nat_cmp, eq_by_cmp}
use Rattle.std.specs.Cmp.Lexicographic.{slice_cmp}
use Rattle.std.specs.Str.Lines.{lines}
use Rattle.kd_base.specs.Limits.{longest_text}
use Rattle.kd_base.specs.Text.{is_digit, is_space, decimal_value}
use Rattle.script_read.specs.declared.fault.ScriptFault.{ScriptFault}
use Rattle.script_read.specs.declared.fault.ScriptFault.TheVariants.{BadLine, OutOfRange, TooLong}

-- the words of a line, which one or more spaces part
abbrev pub words : List ℕ → List (List ℕ)
words line = filter (λ word. nat_lt 0 (length word)) (slice_split is_space line)

-- the same bytes
abbrev pub same : List ℕ → List ℕ → Bool
same a b = eq_by_cmp (slice_cmp nat_cmp) a b

-- what one line is: nothing, a command, or one of the two faults
pub data Line (C : Type 0) : Type 0 where
  Nothing : Line C
  Says : (command : C) → Line C
  IsBad : Line C
  IsOutOfRange : Line C

-- the command that is made of what a line says
abbrev pub as_command : {A C : Type 0} → (A → C) → Line A → Line C
as_command say Nothing = Nothing
as_command say (Says a) = Says (say a)
as_command say IsBad = IsBad
as_command say IsOutOfRange = IsOutOfRange

abbrev pub is_comment : List ℕ → Bool
is_comment [] = false
is_comment (b ∷ rest) = b == 42

-- a comment, an empty line, or one of spaces alone
abbrev pub is_passed : List ℕ → Bool
is_passed line = is_comment line || list_all is_space line

abbrev pub begins_with_space : List ℕ → Bool
begins_with_space [] = false
begins_with_space (b ∷ rest) = is_space b

-- what a line is: trailing spaces are passed over, leading ones are not
abbrev pub line_by : {C : Type 0} → (passed spaced : Bool) → Line C → Line C
line_by true spaced said = Nothing
line_by false true said = IsBad
line_by false false said = said

-- 18 digits at most, whose value lies from low to high
abbrev pub is_count : ℕ → ℕ → List ℕ → Bool
is_count low high digits = nat_le (length digits) 18 && (nat_le low (decimal_value digits) && nat_le (decimal_value digits) high)

abbrev pub number_in : Bool → ℕ → Line ℕ
number_in true n = Says n
number_in false n = IsOutOfRange

abbrev pub number_by : Bool → ℕ → ℕ → List ℕ → Line ℕ
number_by true low high digits = number_in (is_count low high digits) (decimal_value digits)
number_by false low high word = IsBad

-- what a word says where a number from low to high is wanted: a number of digits outside its range is no bad line
abbrev pub numbered : ℕ → ℕ → List ℕ → Line ℕ
numbered low high word = number_by (list_all is_digit word) low high word

-- a line before the commands of the lines after it
abbrev pub before : {C : Type 0} → C → Result (List C) ScriptFault → Result (List C) ScriptFault
before c (Ok commands) = Ok (c ∷ commands)
before c (Err fault) = Err fault

abbrev pub line_then : {C : Type 0} → ℕ → Line C → Result (List C) ScriptFault → Result (List C) ScriptFault
line_then number Nothing rest = rest
line_then number (Says c) rest = before c rest
line_then number IsBad rest = Err (BadLine number)
line_then number IsOutOfRange rest = Err (OutOfRange number)

-- the commands of lines numbered from this one, or the fault of the first line that has one
abbrev pub script_from : {C : Type 0} → (List ℕ → Line C) → ℕ → List (List ℕ) → Result (List C) ScriptFault
script_from reads number [] = Ok []
script_from reads number (line ∷ rest) = line_then number (reads line) (script_from reads (number + 1) rest)

-- the lines that are neither empty nor comments
abbrev pub command_lines : List (List ℕ) → ℕ
command_lines ls = count_by (λ line. not (is_passed line)) ls

-- more than 16,777,216 bytes, or more than 1,000,000 lines that are neither empty nor comments
abbrev pub is_too_long : List ℕ → Bool
is_too_long text = nat_lt longest_text (length text) || nat_lt 1000000 (command_lines (lines text))

abbrev pub script_by : {C : Type 0} → Bool → (List ℕ → Line C) → List ℕ → Result (List C) ScriptFault
script_by true reads text = Err TooLong
script_by false reads text = script_from reads 1 (lines text)

-- the commands of a script whose lines say so, or its first fault
abbrev pub script_of : {C : Type 0} → (List ℕ → Line C) → List ℕ → Result (List C) ScriptFault
script_of reads text = script_by (is_too_long text) reads text
