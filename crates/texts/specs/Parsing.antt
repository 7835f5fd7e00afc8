-- A statement, read from its tokens.
use Rattle.std.specs.Prelude.{ℕ, zero, suc, Bool, true, false, cond, ◌==◌, List, [], ◌∷◌, length, Option, Some, None, if◌then◌else◌, option_and_then, unwrap_or, is_some, IsTrue}
use Rattle.std.specs.Option.{option_map}
use Rattle.kd_base.specs.Tools.{onto, onto_first}
use Rattle.texts.specs.QuotedValues.{quoted_value}
use Rattle.texts.specs.Tokens.{tokens_of}
use Rattle.texts.specs.declared.kdcdef_lex.token.Token.{Token}
use Rattle.texts.specs.declared.kdcdef_lex.token.Token.TheVariants as tokens
use Rattle.texts.specs.declared.kdcdef_lex.statement.RawItem.{RawItem}
use Rattle.texts.specs.declared.kdcdef_lex.statement.RawItem.TheVariants as items
use Rattle.texts.specs.declared.kdcdef_lex.statement.RawValue.{RawValue}
use Rattle.texts.specs.declared.kdcdef_lex.statement.RawValue.TheVariants as values
use Rattle.texts.specs.declared.kdcdef_lex.statement.RawOperand.{RawOperand}
use Rattle.texts.specs.declared.kdcdef_lex.statement.RawStatement.{RawStatement}

-- the item at the front, which may be empty, and what follows
abbrev pub item_at : List Token → Option (Option RawItem × List Token)
item_at [] = None
item_at (tokens.Word w ∷ ts) = Some (Some (items.Word w), ts)
item_at (tokens.Quoted form content ∷ ts) = option_map (λ (q : List ℕ). (Some (items.Quoted q), ts)) (quoted_value form content)
item_at (tokens.Comma ∷ ts) = Some (None, tokens.Comma ∷ ts)
item_at (tokens.Close ∷ ts) = Some (None, tokens.Close ∷ ts)
item_at (tokens.Equals ∷ ts) = None
item_at (tokens.Open ∷ ts) = None

-- an item, whether another comes after it and a comma, and what follows the comma or `)`
abbrev pub item_ended : Option RawItem → List Token → Option (Option RawItem × Bool × List Token)
item_ended item (tokens.Comma ∷ rest) = Some (item, true, rest)
item_ended item (tokens.Close ∷ rest) = Some (item, false, rest)
item_ended item rest = None

abbrev pub item_step : List Token → Option (Option RawItem × Bool × List Token)
item_step ts = option_and_then (λ (i : Option RawItem × List Token). item_ended i.0 i.1) (item_at ts)

-- after `(`: at most n items parted by commas, and what follows the `)`
abbrev pub items_within : ℕ → List Token → Option (List (Option RawItem) × List Token)
items_within zero ts = None
items_within (suc n) ts =
    option_and_then
    (λ (s : Option RawItem × Bool × List Token). cond s.1 (onto_first (s.0 ∷ []) (items_within n s.2)) (Some (s.0 ∷ [], s.2)))
    (item_step ts)

-- the same for all of the list
abbrev pub list_at : List Token → Option (List (Option RawItem) × List Token)
list_at ts = items_within (length ts) ts

-- what follows the `)`
abbrev pub behind_list : List Token → Option (List Token)
behind_list ts = option_map (λ (found : List (Option RawItem) × List Token). found.1) (list_at ts)

-- the items from here to the `)`, where a list is left
abbrev pub items_in : Option (List (Option RawItem) × List Token) → List (Option RawItem)
items_in None = []
items_in (Some found) = found.0

abbrev pub items_left : Option (List Token) → List (Option RawItem)
items_left None = []
items_left (Some ts) = items_in (list_at ts)

abbrev pub AreItemsLeft : Option (List Token) → Type 0
AreItemsLeft None = Unit {0}
AreItemsLeft (Some ts) = IsTrue (is_some (list_at ts))

-- the word at the front, and what follows
abbrev pub word_first : List Token → Option (List ℕ × List Token)
word_first [] = None
word_first (tokens.Word w ∷ ts) = Some (w, ts)
word_first (tokens.Quoted form content ∷ ts) = None
word_first (tokens.Comma ∷ ts) = None
word_first (tokens.Equals ∷ ts) = None
word_first (tokens.Open ∷ ts) = None
word_first (tokens.Close ∷ ts) = None

abbrev pub value_at : List Token → Option (RawValue × List Token)
value_at (tokens.Word w ∷ ts) = Some (values.Word w, ts)
value_at (tokens.Quoted form content ∷ ts) = option_map (λ (q : List ℕ). (values.Quoted q, ts)) (quoted_value form content)
value_at (tokens.Open ∷ ts) = option_map (λ (l : List (Option RawItem) × List Token). (values.Listed l.0, l.1)) (list_at ts)
value_at ts = None

abbrev pub with_key : Option (List ℕ) → Option (RawValue × List Token) → Option (RawOperand × List Token)
with_key key found = option_map (λ (v : RawValue × List Token). (record { key = key; value = v.0 }, v.1)) found

abbrev pub operand_at : List Token → Option (RawOperand × List Token)
operand_at (tokens.Word w ∷ tokens.Equals ∷ ts) = with_key (Some w) (value_at ts)
operand_at ts = with_key None (value_at ts)

-- an operand, whether another comes after it and a comma, and what follows
abbrev pub operand_ended : RawOperand → List Token → Option (RawOperand × Bool × List Token)
operand_ended operand [] = Some (operand, false, [])
operand_ended operand (tokens.Comma ∷ rest) = Some (operand, true, rest)
operand_ended operand rest = None

abbrev pub operand_step : List Token → Option (RawOperand × Bool × List Token)
operand_step ts = option_and_then (λ (o : RawOperand × List Token). operand_ended o.0 o.1) (operand_at ts)

-- at most n operands, parted by commas
abbrev pub operands_within : ℕ → List Token → Option (List RawOperand)
operands_within zero ts = None
operands_within (suc n) ts =
    option_and_then
    (λ (s : RawOperand × Bool × List Token). cond s.1 (onto (s.0 ∷ []) (operands_within n s.2)) (Some (s.0 ∷ [])))
    (operand_step ts)

abbrev pub operands_of : List Token → Option (List RawOperand)
operands_of ts = if length ts == 0 then Some [] else operands_within (length ts) ts

-- a keyword and its operands
abbrev pub statement_at : ℕ → List Token → Option RawStatement
statement_at line (tokens.Word w ∷ ts) = option_map (λ (os : List RawOperand). record { line = line; keyword = w; operands = os }) (operands_of ts)
statement_at line ts = None

-- the statement at this line that the bytes are
abbrev pub spelled_at : ℕ → List ℕ → Option RawStatement
spelled_at line bytes = option_and_then (statement_at line) (tokens_of bytes)

abbrev pub statement_in : ℕ → List ℕ → RawStatement
statement_in line bytes = unwrap_or (spelled_at line bytes) (record { line = line; keyword = []; operands = [] })
