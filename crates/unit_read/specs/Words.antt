-- The words of a line, one after another.
use Rattle.std.specs.Prelude.{ℕ, List, drop, Option, Some, None, if◌then◌else◌}
use Rattle.std.specs.List.{prefix_len, take_while}
use Rattle.kd_base.specs.Fronts.{begins}
use Rattle.texts.specs.Quotes.{is_quote, quoted_at}
use Rattle.texts.specs.Parts.{parts_of}
use Rattle.unit_read.specs.declared.word.Word.{Word}
use Rattle.unit_read.specs.declared.word.Word.TheVariants.{Plain, Literal}
use Rattle.unit_read.specs.Lines.{is_word_byte}

-- a literal, where a blank or nothing follows it
abbrev pub literal_at : Option (List ℕ × List ℕ) → Option (Word × List ℕ)
literal_at None = None
literal_at (Some q) = if begins is_word_byte q.1 then None else Some (Literal q.0, q.1)

-- a word at the front of bytes that begin with no blank, and what follows
abbrev pub word_at : List ℕ → Option (Word × List ℕ)
word_at bytes =
    if begins is_quote bytes
    then literal_at (quoted_at (drop 1 bytes))
    else Some (Plain (take_while is_word_byte bytes), drop (prefix_len is_word_byte bytes) bytes)

-- the words of a line; None where a literal has no end, or is not parted from what follows
abbrev pub words_of : List ℕ → Option (List Word)
words_of line = parts_of word_at line
