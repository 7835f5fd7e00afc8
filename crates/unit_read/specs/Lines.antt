-- The bytes of words, and comments.
use Rattle.std.specs.Prelude.{ℕ, Bool, ◌||◌, not, ◌==◌, List, length, slice_index}
use Rattle.texts.specs.Blanks.{is_blank, from_first}

abbrev pub is_word_byte : ℕ → Bool
is_word_byte b = not (is_blank b)

-- blanks alone, or a comment, which begins with `*`
abbrev pub is_passed : List ℕ → Bool
is_passed line = length (from_first line) == 0 || slice_index line 0 == 42
