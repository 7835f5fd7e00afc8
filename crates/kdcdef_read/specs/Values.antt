-- The values of operands, by the kind of their rows.
use Rattle.std.specs.Prelude.{ℕ, ◌==◌, true, false, List, [], ◌∷◌, Option, Some, None, Result, Ok, Err, if◌then◌else◌, codes}
use Rattle.kd_base.specs.FirstFaults.{first_true}
use Rattle.kd_base.specs.Text.{name_up_to}
use Rattle.kd_base.specs.Tools.{◌>>=◌}
use Rattle.application_types.specs.declared.kdcdef_types.entry.CallUse.TheVariants as calls
use Rattle.texts.specs.declared.kdcdef_lex.statement.RawItem.{RawItem}
use Rattle.texts.specs.declared.kdcdef_lex.statement.RawItem.TheVariants as items
use Rattle.texts.specs.declared.kdcdef_lex.statement.RawValue.{RawValue}
use Rattle.texts.specs.declared.kdcdef_lex.statement.RawValue.TheVariants as raw
use Rattle.kdcdef_read.specs.declared.fault.Cause.{Cause}
use Rattle.kdcdef_read.specs.declared.fault.Cause.TheVariants.{BadName, OutOfRange, BadChoice, NotInProfile}
use Rattle.kdcdef_read.specs.declared.rows.Choice.{Choice}
use Rattle.kdcdef_read.specs.declared.rows.Choice.TheVariants as choices
use Rattle.kdcdef_read.specs.declared.rows.Kind.{Kind}
use Rattle.kdcdef_read.specs.declared.rows.Kind.TheVariants as kinds
use Rattle.kdcdef_read.specs.declared.value.Value.{Value}
use Rattle.kdcdef_read.specs.declared.value.Value.TheVariants as values
use Rattle.kdcdef_read.specs.KeySets.{keys_in}
use Rattle.kdcdef_read.specs.Numbers.{or_cause, number_between}
use Rattle.kdcdef_read.specs.Passwords.{password_of}
use Rattle.kdcdef_read.specs.Words.{is}

-- ---- numbers

abbrev pub number_in : ℕ → ℕ → RawValue → Result Value Cause
number_in low high value = number_between low high value >>= λ n. Ok (values.Number n)

abbrev pub class_in : RawValue → Result Value Cause
class_in value = number_between 1 16 value >>= λ n. Ok (values.Class n)

abbrev pub redelivery_in : RawValue → Result Value Cause
redelivery_in value = number_between 0 255 value >>= λ n. Ok (values.Redelivery n)

-- 0 stands for 100,000
abbrev pub time_in : RawValue → Result Value Cause
time_in value = number_between 0 100000 value >>= λ n. if n == 0 then Ok (values.Time 100000) else Ok (values.Time n)

-- ---- choices

-- one of two words
abbrev pub flag_of : List ℕ → List ℕ → List ℕ → Option Value
flag_of off on word = if is word off then Some (values.Flag false) else (if is word on then Some (values.Flag true) else None)

abbrev pub call_of : List ℕ → Option Value
call_of word = first_true ((is word (codes "BOTH"), values.Call calls.Both) ∷ (is word (codes "FIRST"), values.Call calls.First) ∷ (is word (codes "NEXT"), values.Call calls.Next) ∷ [])

abbrev pub blksize_of : List ℕ → Option Value
blksize_of word = first_true ((is word (codes "2K"), values.Number 2048) ∷ (is word (codes "4K"), values.Number 4096) ∷ (is word (codes "8K"), values.Number 8192) ∷ [])

-- what a word says, where it is one of the choices
abbrev pub choice_of : Choice → List ℕ → Option Value
choice_of choices.Type word = flag_of (codes "D") (codes "A") word
choice_of choices.Call word = call_of word
choice_of choices.Status word = flag_of (codes "OFF") (codes "ON") word
choice_of choices.Restart word = flag_of (codes "NO") (codes "YES") word
choice_of choices.Usage word = flag_of (codes "D") (codes "O") word
choice_of choices.Blksize word = blksize_of word

abbrev pub one_of : Choice → RawValue → Result Value Cause
one_of choice (raw.Word word) = or_cause (λ (value : Value). value) BadChoice (choice_of choice word)
one_of choice (raw.Quoted bytes) = Err BadChoice
one_of choice (raw.Listed is) = Err BadChoice

-- ---- names and passwords

-- a name of at most so many bytes
abbrev pub written_name : ℕ → RawValue → Result (List ℕ) Cause
written_name most (raw.Word word) = or_cause (λ (name : List ℕ). name) BadName (name_up_to most word)
written_name most (raw.Quoted bytes) = Err BadName
written_name most (raw.Listed is) = Err BadChoice

abbrev pub password_in : RawValue → Result Value Cause
password_in (raw.Word bytes) = or_cause (λ (pass : List ℕ). values.Password pass) OutOfRange (password_of bytes)
password_in (raw.Quoted bytes) = or_cause (λ (pass : List ℕ). values.Password pass) OutOfRange (password_of bytes)
password_in (raw.Listed is) = Err BadChoice

-- ---- KDCFILE and APPLIMODE

-- a choice of two words, of which this profile has the first
abbrev pub first_of : List ℕ → List ℕ → List ℕ → Result Value Cause
first_of kept other word = if is word kept then Ok values.Accepted else (if is word other then Err NotInProfile else Err BadChoice)

-- how many copies a word says
abbrev pub copies_in : List ℕ → Result Value Cause
copies_in word = or_cause (λ (value : Value). value) BadChoice (flag_of (codes "SINGLE") (codes "DOUBLE") word)

-- the second of two words
abbrev pub second_word : List (Option RawItem) → Option (List ℕ)
second_word (Some (items.Word first) ∷ Some (items.Word word) ∷ []) = Some word
second_word _ = None

-- whether there are two copies: a base alone, or a list of a base and a word
abbrev pub file_in : RawValue → Result Value Cause
file_in (raw.Word base) = Ok (values.Flag false)
file_in (raw.Listed (Some (items.Word base) ∷ Some (items.Word word) ∷ [])) = copies_in word
file_in value = Err BadChoice

abbrev pub mode_in : RawValue → Result Value Cause
mode_in (raw.Word word) = first_of (codes "SECURE") (codes "FAST") word
mode_in (raw.Quoted bytes) = Err BadChoice
mode_in (raw.Listed is) = Err BadChoice

-- ---- all kinds

-- what an operand with this value says, or why it is refused
abbrev pub value_of : Kind → RawValue → Result Value Cause
value_of kinds.Name value = written_name 8 value >>= λ name. Ok (values.Name name)
value_of kinds.ProgName value = written_name 32 value >>= λ name. Ok (values.ProgName name)
value_of (kinds.Number low high) value = number_in low high value
value_of kinds.Class value = class_in value
value_of kinds.Redelivery value = redelivery_in value
value_of kinds.Time value = time_in value
value_of (kinds.OneOf choice) value = one_of choice value
value_of kinds.Password value = password_in value
value_of kinds.File value = file_in value
value_of kinds.Mode value = mode_in value
value_of kinds.Keys value = keys_in value
value_of kinds.Unavailable value = Err NotInProfile
