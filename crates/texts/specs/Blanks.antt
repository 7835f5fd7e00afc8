-- Blanks.
use Rattle.std.specs.Prelude.{ℕ, Bool, ◌||◌, ◌==◌, List, drop}
use Rattle.std.specs.List.{prefix_len}

-- a space or a tab
abbrev pub is_blank : ℕ → Bool
is_blank b = b == 32 || b == 9

-- the bytes from the first that is no blank
abbrev pub from_first : List ℕ → List ℕ
from_first line = drop (prefix_len is_blank line) line
