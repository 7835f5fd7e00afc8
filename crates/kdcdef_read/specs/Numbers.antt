-- Numbers that operands have as their values.
use Rattle.std.specs.Prelude.{ℕ, ◌&&◌, nat_le, List, [], ◌∷◌, Option, Some, None, Result, Ok, Err, if◌then◌else◌}
use Rattle.kd_base.specs.Text.{decimal_of}
use Rattle.texts.specs.declared.kdcdef_lex.statement.RawItem.{RawItem}
use Rattle.texts.specs.declared.kdcdef_lex.statement.RawItem.TheVariants as items
use Rattle.texts.specs.declared.kdcdef_lex.statement.RawValue.{RawValue}
use Rattle.texts.specs.declared.kdcdef_lex.statement.RawValue.TheVariants as raw
use Rattle.kdcdef_read.specs.declared.fault.Cause.{Cause}
use Rattle.kdcdef_read.specs.declared.fault.Cause.TheVariants.{BadNumber, OutOfRange}

-- what is there, or the cause
abbrev pub or_cause : {A B : Type 0} → (A → B) → Cause → Option A → Result B Cause
or_cause made cause None = Err cause
or_cause made cause (Some x) = Ok (made x)

-- the word that is the first item, and the items behind it
abbrev pub first_word : List (Option RawItem) → Option (List ℕ × List (Option RawItem))
first_word [] = None
first_word (None ∷ more) = None
first_word (Some (items.Word word) ∷ more) = Some (word, more)
first_word (Some (items.Quoted bytes) ∷ more) = None

-- the word, or the first item of a list where that is a word
abbrev pub number_text : RawValue → List ℕ
number_text (raw.Word word) = word
number_text (raw.Quoted bytes) = []
number_text (raw.Listed []) = []
number_text (raw.Listed (None ∷ more)) = []
number_text (raw.Listed (Some (items.Word word) ∷ more)) = word
number_text (raw.Listed (Some (items.Quoted bytes) ∷ more)) = []

-- the number, where there is one and it is from low to high
abbrev pub in_range : ℕ → ℕ → Option ℕ → Result ℕ Cause
in_range low high None = Err BadNumber
in_range low high (Some n) = if nat_le low n && nat_le n high then Ok n else Err OutOfRange

-- a number from low to high
abbrev pub number_between : ℕ → ℕ → RawValue → Result ℕ Cause
number_between low high value = in_range low high (decimal_of (number_text value))
