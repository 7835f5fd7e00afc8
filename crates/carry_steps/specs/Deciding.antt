-- What is decided of files that are carried.
use Rattle.std.specs.Prelude.{ℕ, ◌+◌, Bool, true, false, not, Option, Some, None}

-- the sequence of the copy that is made: of the next one, or of the first one of an application that had one file
abbrev pub next_sequence : (double : Bool) → Option ℕ → Option ℕ
next_sequence false s = None
next_sequence true None = Some 0
next_sequence true (Some n) = Some (n + 1)

-- two copies or a file by itself, as is asked
abbrev pub is_asked : (double two : Bool) → Bool
is_asked true two = two
is_asked false two = not two

-- a second copy is shut, where one file is asked for
abbrev pub shuts_second : (double : Bool) → Option ℕ → Bool
shuts_second double None = false
shuts_second double (Some n) = not double
