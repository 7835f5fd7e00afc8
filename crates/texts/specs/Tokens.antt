-- The tokens of a statement.
use Rattle.std.specs.Prelude.{ℕ, ◌==◌, List, [], drop, Option, Some, None, if◌then◌else◌, slice_index, unwrap_or}
use Rattle.kd_base.specs.Fronts.{begins}
use Rattle.std.specs.Option.{option_map}
use Rattle.std.specs.List.{prefix_len, take_while}
use Rattle.texts.specs.Quotes.{is_quote, quoted_at}
use Rattle.texts.specs.Parts.{parts_of}
use Rattle.texts.specs.declared.kdcdef_lex.token.Token.{Token}
use Rattle.texts.specs.declared.kdcdef_lex.token.Token.TheVariants.{Word, Quoted, Comma, Equals, Open, Close}
use Rattle.texts.specs.Lines.{is_word_byte}

abbrev pub mark_of : ℕ → Option Token
mark_of b =
    if b == 44 then Some Comma
    else (if b == 61 then Some Equals
    else (if b == 40 then Some Open
    else (if b == 41 then Some Close else None)))

-- a token at the front of bytes that begin with no blank, and what follows
abbrev pub word_at : List ℕ → Option (Token × List ℕ)
word_at bytes =
    let rest = drop (prefix_len is_word_byte bytes) bytes in
    if begins is_quote rest
    then option_map (λ (q : List ℕ × List ℕ). (Quoted (take_while is_word_byte bytes) q.0, q.1)) (quoted_at (drop 1 rest))
    else Some (Word (take_while is_word_byte bytes), rest)

abbrev pub marked : Option Token → List ℕ → Option (Token × List ℕ)
marked (Some mark) bytes = Some (mark, drop 1 bytes)
marked None bytes = word_at bytes

abbrev pub token_at : List ℕ → Option (Token × List ℕ)
token_at bytes = marked (mark_of (slice_index bytes 0)) bytes

-- the tokens of bytes; None where a quote has no end
abbrev pub tokens_of : List ℕ → Option (List Token)
tokens_of bytes = parts_of token_at bytes

abbrev pub tokens_in : List ℕ → List Token
tokens_in bytes = unwrap_or (tokens_of bytes) []
