-- A plain way to write statements: one to a line, a blank after each token.
use Rattle.std.specs.Prelude.{◌≡◌, ℕ, ◌+◌, ◌<◌, ◌≤◌, ◌/◌, ◌%◌, Bool, false, IsTrue, nat_lt, List, [], ◌∷◌, ◌++◌, length, Option, Some, None, if◌then◌else◌}
use Rattle.std.specs.List.{list_all}
use Rattle.kd_base.specs.Limits.{longest_text}
use Rattle.kd_base.specs.Text.{hex_digit}
use Rattle.texts.specs.declared.kdcdef_lex.token.Token.{Token}
use Rattle.texts.specs.declared.kdcdef_lex.token.Token.TheVariants as tokens
use Rattle.texts.specs.declared.kdcdef_lex.statement.RawItem.{RawItem}
use Rattle.texts.specs.declared.kdcdef_lex.statement.RawItem.TheVariants as items
use Rattle.texts.specs.declared.kdcdef_lex.statement.RawValue.{RawValue}
use Rattle.texts.specs.declared.kdcdef_lex.statement.RawValue.TheVariants as values
use Rattle.texts.specs.declared.kdcdef_lex.statement.RawOperand.{RawOperand}
use Rattle.texts.specs.declared.kdcdef_lex.statement.RawStatement.{RawStatement}
use Rattle.texts.specs.Lines.{is_word_byte, is_passed, continued}
use Rattle.texts.specs.Reading.{is_text_byte}
use Rattle.texts.specs.Grammar.{written}
use Rattle.texts.specs.Spelling.{SpellsStatements}

-- ---- the text

-- two hexadecimal digits for each byte
abbrev pub hex_written : List ℕ → List ℕ
hex_written [] = []
hex_written (b ∷ bytes) = hex_digit (b / 16) ∷ hex_digit (b % 16) ∷ hex_written bytes

-- `'..'` where all bytes may be in a statement, else `X'..'`
abbrev pub quoted_token : List ℕ → Token
quoted_token bytes = if list_all is_text_byte bytes then tokens.Quoted [] bytes else tokens.Quoted (88 ∷ []) (hex_written bytes)

abbrev pub item_tokens : Option RawItem → List Token
item_tokens None = []
item_tokens (Some (items.Word word)) = tokens.Word word ∷ []
item_tokens (Some (items.Quoted bytes)) = quoted_token bytes ∷ []

-- items parted by commas
abbrev pub items_tokens : List (Option RawItem) → List Token
items_tokens [] = []
items_tokens (i ∷ []) = item_tokens i
items_tokens (i ∷ j ∷ is) = item_tokens i ++ tokens.Comma ∷ items_tokens (j ∷ is)

abbrev pub value_tokens : RawValue → List Token
value_tokens (values.Word word) = tokens.Word word ∷ []
value_tokens (values.Quoted bytes) = quoted_token bytes ∷ []
value_tokens (values.Listed is) = tokens.Open ∷ (items_tokens is ++ tokens.Close ∷ [])

abbrev pub keyed_tokens : Option (List ℕ) → RawValue → List Token
keyed_tokens None value = value_tokens value
keyed_tokens (Some key) value = tokens.Word key ∷ tokens.Equals ∷ value_tokens value

-- operands parted by commas
abbrev pub operands_tokens : List RawOperand → List Token
operands_tokens [] = []
operands_tokens (o ∷ []) = keyed_tokens o.key o.value
operands_tokens (o ∷ p ∷ os) = keyed_tokens o.key o.value ++ tokens.Comma ∷ operands_tokens (p ∷ os)

abbrev pub statement_tokens : RawStatement → List Token
statement_tokens s = tokens.Word s.keyword ∷ operands_tokens s.operands

-- each token, and a blank after it
abbrev pub with_blanks : List Token → List ℕ
with_blanks [] = []
with_blanks (t ∷ ts) = written t ++ 32 ∷ with_blanks ts

abbrev pub plain_line : RawStatement → List ℕ
plain_line s = with_blanks (statement_tokens s)

abbrev pub plain_text : List RawStatement → List ℕ
plain_text [] = []
plain_text (s ∷ ss) = plain_line s ++ 10 ∷ plain_text ss

-- ---- what can be written so

abbrev pub is_byte : ℕ → Bool
is_byte b = nat_lt b 256

-- a word of bytes that may be in a statement
abbrev pub IsWord : List ℕ → Type 0
IsWord word = (0 < length word) × IsTrue (list_all is_word_byte word) × IsTrue (list_all is_text_byte word)

abbrev pub ItemIsWritable : Option RawItem → Type 0
ItemIsWritable None = Unit {0}
ItemIsWritable (Some (items.Word word)) = IsWord word
ItemIsWritable (Some (items.Quoted bytes)) = IsTrue (list_all is_byte bytes)

-- a list has an item, which may be empty
abbrev pub ItemsAreWritable : List (Option RawItem) → Type 0
ItemsAreWritable [] = ⊥
ItemsAreWritable (i ∷ []) = ItemIsWritable i
ItemsAreWritable (i ∷ j ∷ is) = ItemIsWritable i × ItemsAreWritable (j ∷ is)

abbrev pub ValueIsWritable : RawValue → Type 0
ValueIsWritable (values.Word word) = IsWord word
ValueIsWritable (values.Quoted bytes) = IsTrue (list_all is_byte bytes)
ValueIsWritable (values.Listed is) = ItemsAreWritable is

abbrev pub KeyedIsWritable : Option (List ℕ) → RawValue → Type 0
KeyedIsWritable None value = ValueIsWritable value
KeyedIsWritable (Some key) value = IsWord key × ValueIsWritable value

abbrev pub OperandsAreWritable : List RawOperand → Type 0
OperandsAreWritable [] = Unit {0}
OperandsAreWritable (o ∷ os) = KeyedIsWritable o.key o.value × OperandsAreWritable os

-- its words are words, and its line is neither a comment nor continued
pub record IsWritable (s : RawStatement) : Type 0 where
  pub keyword : IsWord s.keyword
  pub operands : OperandsAreWritable s.operands
  pub begins : is_passed (plain_line s) ≡ false
  pub ends : continued (plain_line s) ≡ None

-- statements that stand on the lines from number n on
abbrev pub AreWritable : ℕ → List RawStatement → Type 0
AreWritable n [] = Unit {0}
AreWritable n (s ∷ ss) = IsWritable s × (s.line ≡ n) × AreWritable (n + 1) ss

-- the plain text of statements spells them
abbrev pub PlainTextSpells : Type 0
PlainTextSpells = (ss : List RawStatement) → AreWritable 1 ss → length (plain_text ss) ≤ longest_text → SpellsStatements (plain_text ss) ss
