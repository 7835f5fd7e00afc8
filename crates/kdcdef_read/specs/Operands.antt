-- What the operands of a statement say, by its rows.
use Rattle.std.specs.Prelude.{ℕ, ◌+◌, ◌==◌, Bool, true, false, List, [], ◌∷◌, ◌++◌, Option, Some, None, Result, Ok, Err, if◌then◌else◌, is_some}
use Rattle.std.specs.Option.{option_or}
use Rattle.std.specs.Result.{result_ok}
use Rattle.texts.specs.declared.kdcdef_lex.statement.RawOperand.{RawOperand}
use Rattle.kdcdef_read.specs.declared.fault.Cause.{Cause}
use Rattle.kdcdef_read.specs.declared.fault.Cause.TheVariants.{OperandTwice}
use Rattle.kdcdef_read.specs.declared.words.Keyword.{Keyword}
use Rattle.kdcdef_read.specs.declared.words.Key.{Key}
use Rattle.kdcdef_read.specs.declared.words.Key.TheVariants.{First}
use Rattle.kdcdef_read.specs.declared.rows.Row.{Row}
use Rattle.kdcdef_read.specs.declared.value.Value.{Value}
use Rattle.kdcdef_read.specs.Words.{key_of, place_of}
use Rattle.kdcdef_read.specs.Table.{row_of}
use Rattle.kdcdef_read.specs.Values.{value_of}

-- whether two keys are the same
abbrev pub same_key : Key → Key → Bool
same_key a b = place_of a == place_of b

-- the key that is written; the first operand of a statement may have none
abbrev pub key_in : Bool → Option (List ℕ) → Option Key
key_in first (Some word) = key_of word
key_in true None = Some First
key_in false None = None

-- the key of an operand, `first` where it is the first one of its statement
abbrev pub operand_key : Bool → RawOperand → Option Key
operand_key first o = key_in first o.key

-- what an operand with this row says
abbrev pub row_says : RawOperand → Option Row → Option Value
row_says o None = None
row_says o (Some row) = result_ok (value_of row.kind o.value)

-- what an operand with the key k says for a key
abbrev pub key_says : Keyword → Key → RawOperand → Option Key → Option Value
key_says keyword key o None = None
key_says keyword key o (Some k) = if same_key k key then row_says o (row_of keyword key) else None

-- what the operands say for a key, the first of them being the statement's first one or not
abbrev pub said_from : Bool → Keyword → Key → List RawOperand → Option Value
said_from first keyword key [] = None
said_from first keyword key (o ∷ os) = option_or (key_says keyword key o (operand_key first o)) (said_from false keyword key os)

-- what the operands of a statement say for a key
abbrev pub said : Keyword → Key → List RawOperand → Option Value
said keyword key os = said_from true keyword key os

-- the default of a row
abbrev pub default_in : Option Row → Option Value
default_in None = None
default_in (Some row) = row.default

-- the same, and the default where they say nothing
abbrev pub answer_of : Keyword → List RawOperand → Key → Option Value
answer_of keyword os key = option_or (said keyword key os) (default_in (row_of keyword key))

-- whether an operand is one that the statement keeps
abbrev pub is_kept : Keyword → Option Key → Bool
is_kept keyword None = false
is_kept keyword (Some key) = is_some (row_of keyword key)

-- how many operands are passed over, the first of them being the statement's first one or not
abbrev pub passed_from : Bool → Keyword → List RawOperand → ℕ
passed_from first keyword [] = 0
passed_from first keyword (o ∷ os) = (if is_kept keyword (operand_key first o) then 0 else 1) + passed_from false keyword os

-- the same for all operands of a statement
abbrev pub passed_in : Keyword → List RawOperand → ℕ
passed_in keyword os = passed_from true keyword os

-- ---- faults

-- why there is no value
abbrev pub cause_of : {A : Type 0} → Result A Cause → Option Cause
cause_of (Ok x) = None
cause_of (Err cause) = Some cause

-- an operand with this row is given twice where those before it say something for its key
abbrev pub row_cause : Bool → RawOperand → Option Row → Option Cause
row_cause twice o None = None
row_cause twice o (Some row) = if twice then Some OperandTwice else cause_of (value_of row.kind o.value)

-- why an operand with this key is refused after these
abbrev pub key_cause : Keyword → List RawOperand → RawOperand → Option Key → Option Cause
key_cause keyword before o None = None
key_cause keyword before o (Some key) = row_cause (is_some (said keyword key before)) o (row_of keyword key)

-- why an operand after these is refused
abbrev pub operand_cause : Bool → Keyword → List RawOperand → RawOperand → Option Cause
operand_cause first keyword before o = key_cause keyword before o (operand_key first o)

-- why the first refused one of the operands is refused; `before` are the operands before them
abbrev pub cause_from : Bool → Keyword → List RawOperand → List RawOperand → Option Cause
cause_from first keyword before [] = None
cause_from first keyword before (o ∷ os) =
    option_or (operand_cause first keyword before o) (cause_from false keyword (before ++ o ∷ []) os)

-- the same for all operands of a statement
abbrev pub first_cause : Keyword → List RawOperand → List RawOperand → Option Cause
first_cause keyword before os = cause_from true keyword before os
