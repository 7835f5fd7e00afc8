-- The codes of a key set, as KEYS gives them. Every item of a list counts.
use Rattle.std.specs.Prelude.{ℕ, ◌&&◌, nat_le, Bool, false, List, [], ◌∷◌, Option, Some, None, Result, Ok, Err, is_some, if◌then◌else◌, codes}
use Rattle.std.specs.List.{list_all}
use Rattle.std.specs.Result.{result_ok}
use Rattle.kd_base.specs.Text.{decimal_of}
use Rattle.kd_base.specs.Tools.{onto, ◌>>=◌}
use Rattle.texts.specs.declared.kdcdef_lex.statement.RawItem.{RawItem}
use Rattle.texts.specs.declared.kdcdef_lex.statement.RawItem.TheVariants as items
use Rattle.texts.specs.declared.kdcdef_lex.statement.RawOperand.{RawOperand}
use Rattle.texts.specs.declared.kdcdef_lex.statement.RawValue.{RawValue}
use Rattle.texts.specs.declared.kdcdef_lex.statement.RawValue.TheVariants as raw
use Rattle.application_types.specs.declared.kdcdef_types.entry.KeySet.{KeySet}
use Rattle.application_types.specs.declared.kdcdef_types.entry.KeySet.TheVariants.{Master, Codes}
use Rattle.kdcdef_read.specs.declared.fault.Cause.{Cause}
use Rattle.kdcdef_read.specs.declared.fault.Cause.TheVariants.{BadNumber, OutOfRange}
use Rattle.kdcdef_read.specs.declared.value.Value.{Value}
use Rattle.kdcdef_read.specs.declared.value.Value.TheVariants as values
use Rattle.kdcdef_read.specs.Numbers.{or_cause, number_between}
use Rattle.kdcdef_read.specs.Words.{is}

-- the number that an item is
abbrev pub item_number : Option RawItem → Option ℕ
item_number None = None
item_number (Some (items.Word word)) = decimal_of word
item_number (Some (items.Quoted bytes)) = None

abbrev pub is_number : Option RawItem → Bool
is_number item = is_some (item_number item)

-- a number that is a code: from 1 to 4000
abbrev pub code_in : Option ℕ → Option ℕ
code_in None = None
code_in (Some n) = if nat_le 1 n && nat_le n 4000 then Some n else None

abbrev pub code_of : Option RawItem → Option ℕ
code_of item = code_in (item_number item)

abbrev pub is_code : Option RawItem → Bool
is_code item = is_some (code_of item)

-- a code, before those that follow it
abbrev pub with_code : Option ℕ → Option (List ℕ) → Option (List ℕ)
with_code None more = None
with_code (Some code) more = onto (code ∷ []) more

-- the codes that the items are, where each is one
abbrev pub codes_of : List (Option RawItem) → Option (List ℕ)
codes_of [] = Some []
codes_of (item ∷ more) = with_code (code_of item) (codes_of more)

-- why they are not: one of them is no number, or they are not all in range
abbrev pub codes_cause : List (Option RawItem) → Cause
codes_cause items = if list_all is_number items then OutOfRange else BadNumber

-- the key set of one code
abbrev pub one_code : RawValue → Result KeySet Cause
one_code value = number_between 1 4000 value >>= λ code. Ok (Codes (code ∷ []))

-- the key set of a list of one code or more
abbrev pub listed_codes : List (Option RawItem) → Result KeySet Cause
listed_codes [] = Err BadNumber
listed_codes (item ∷ more) = or_cause (λ (list : List ℕ). Codes list) (codes_cause (item ∷ more)) (codes_of (item ∷ more))

-- the key set that a value is: MASTER, one code, or a list of codes
abbrev pub key_set_in : RawValue → Result KeySet Cause
key_set_in (raw.Word word) = if is word (codes "MASTER") then Ok Master else one_code (raw.Word word)
key_set_in (raw.Quoted bytes) = Err BadNumber
key_set_in (raw.Listed items) = listed_codes items

-- it is one, or the cause why not
abbrev pub fits : Result KeySet Cause → Result Value Cause
fits set = set >>= λ _. Ok values.Keys

abbrev pub codes_in : List (Option RawItem) → Result Value Cause
codes_in items = fits (listed_codes items)

abbrev pub keys_in : RawValue → Result Value Cause
keys_in value = fits (key_set_in value)

-- whether an operand has the key KEYS
abbrev pub is_keys : Option (List ℕ) → Bool
is_keys None = false
is_keys (Some word) = is word (codes "KEYS")

-- the key set that the operand KEYS of a statement gives
abbrev pub key_set_of : List RawOperand → Option KeySet
key_set_of [] = None
key_set_of (o ∷ os) = if is_keys o.key then result_ok (key_set_in o.value) else key_set_of os
