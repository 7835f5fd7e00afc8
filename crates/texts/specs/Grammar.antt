-- How statements are written.
use Rattle.std.specs.Prelude.{◌≡◌, ℕ, ◌<◌, false, IsTrue, List, [], ◌∷◌, ◌++◌, length, Option, Some, None}
use Rattle.std.specs.List.{list_all}
use Rattle.kd_base.specs.Fronts.{begins}
use Rattle.texts.specs.declared.kdcdef_lex.token.Token.{Token}
use Rattle.texts.specs.declared.kdcdef_lex.token.Token.TheVariants as tokens
use Rattle.texts.specs.declared.kdcdef_lex.statement.RawItem.{RawItem}
use Rattle.texts.specs.declared.kdcdef_lex.statement.RawItem.TheVariants as items
use Rattle.texts.specs.declared.kdcdef_lex.statement.RawValue.{RawValue}
use Rattle.texts.specs.declared.kdcdef_lex.statement.RawValue.TheVariants as values
use Rattle.texts.specs.declared.kdcdef_lex.statement.RawOperand.{RawOperand}
use Rattle.texts.specs.declared.kdcdef_lex.statement.RawStatement.{RawStatement}
use Rattle.texts.specs.Quotes.{is_quote, doubled}
use Rattle.texts.specs.Parts.{AreParts}
use Rattle.texts.specs.Lines.{is_word_byte}
use Rattle.texts.specs.QuotedValues.{quoted_value}

-- ---- tokens as bytes

-- the bytes of a token
abbrev pub written : Token → List ℕ
written (tokens.Word word) = word
written (tokens.Quoted form content) = form ++ 39 ∷ (doubled content ++ 39 ∷ [])
written tokens.Comma = 44 ∷ []
written tokens.Equals = 61 ∷ []
written tokens.Open = 40 ∷ []
written tokens.Close = 41 ∷ []

-- what a word and the form of a quoted value are made of
abbrev pub IsToken : Token → Type 0
IsToken (tokens.Word word) = (0 < length word) × IsTrue (list_all is_word_byte word)
IsToken (tokens.Quoted form content) = IsTrue (list_all is_word_byte form)
IsToken mark = Unit {0}

-- no more of the token follows
abbrev pub Ends : Token → List ℕ → Type 0
Ends (tokens.Word word) rest = (begins is_word_byte rest ≡ false) × (begins is_quote rest ≡ false)
Ends (tokens.Quoted form content) rest = begins is_quote rest ≡ false
Ends mark rest = Unit {0}

-- the bytes are these tokens, with blanks before, between and after them
abbrev pub AreTokens : List Token → List ℕ → Type 0
AreTokens ts bytes = AreParts written IsToken Ends ts bytes

-- ---- statements as tokens

-- an item of a list, which may be empty
abbrev pub IsItem : Option RawItem → List Token → Type 0
IsItem None ts = ts ≡ []
IsItem (Some (items.Word word)) ts = ts ≡ tokens.Word word ∷ []
IsItem (Some (items.Quoted value)) ts = (form content : List ℕ) × (ts ≡ tokens.Quoted form content ∷ []) × (quoted_value form content ≡ Some value)

-- items parted by commas
abbrev pub AreItems : List (Option RawItem) → List Token → Type 0
AreItems [] ts = ⊥
AreItems (i ∷ []) ts = IsItem i ts
AreItems (i ∷ j ∷ is) ts = (own rest : List Token) × (ts ≡ own ++ tokens.Comma ∷ rest) × IsItem i own × AreItems (j ∷ is) rest

abbrev pub IsValue : RawValue → List Token → Type 0
IsValue (values.Word word) ts = ts ≡ tokens.Word word ∷ []
IsValue (values.Quoted value) ts = (form content : List ℕ) × (ts ≡ tokens.Quoted form content ∷ []) × (quoted_value form content ≡ Some value)
IsValue (values.Listed is) ts = (inside : List Token) × (ts ≡ tokens.Open ∷ (inside ++ tokens.Close ∷ [])) × AreItems is inside

-- a value, after a key and `=` where there is a key
abbrev pub IsKeyed : Option (List ℕ) → RawValue → List Token → Type 0
IsKeyed None value ts = IsValue value ts
IsKeyed (Some key) value ts = (rest : List Token) × (ts ≡ tokens.Word key ∷ tokens.Equals ∷ rest) × IsValue value rest

abbrev pub IsOperand : RawOperand → List Token → Type 0
IsOperand o ts = IsKeyed o.key o.value ts

-- operands parted by commas; there may be none
abbrev pub AreOperands : List RawOperand → List Token → Type 0
AreOperands [] ts = ts ≡ []
AreOperands (o ∷ []) ts = IsOperand o ts
AreOperands (o ∷ p ∷ os) ts = (own rest : List Token) × (ts ≡ own ++ tokens.Comma ∷ rest) × IsOperand o own × AreOperands (p ∷ os) rest

-- a keyword and its operands
abbrev pub IsStatement : RawStatement → List Token → Type 0
IsStatement s ts = (rest : List Token) × (ts ≡ tokens.Word s.keyword ∷ rest) × AreOperands s.operands rest
