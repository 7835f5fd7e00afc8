-- What raw statements stand for, and their first fault.
use Rattle.std.specs.Prelude.{◌≡◌, ◌⊎◌, ℕ, ◌+◌, List, [], ◌∷◌, ◌++◌, length, Option, Some, None, Result, Ok, Err}
use Rattle.texts.specs.declared.kdcdef_lex.statement.RawOperand.{RawOperand}
use Rattle.texts.specs.declared.kdcdef_lex.statement.RawStatement.{RawStatement}
use Rattle.application_types.specs.declared.kdcdef_types.statement.Said.{Said}
use Rattle.application_types.specs.declared.kdcdef_types.statement.Said.TheVariants.{Passed, End}
use Rattle.application_types.specs.declared.kdcdef_types.statement.Statement.{Statement}
use Rattle.application_types.specs.Statements.{EndsOnce}
use Rattle.kdcdef_read.specs.declared.fault.Cause.{Cause}
use Rattle.kdcdef_read.specs.declared.fault.ReadFault.{ReadFault}
use Rattle.kdcdef_read.specs.declared.fault.ReadFault.TheVariants.{UnknownStatement, OperandMissing, AfterEnd, NoEnd}
use Rattle.kdcdef_read.specs.declared.words.Keyword.TheVariants as keywords
use Rattle.kdcdef_read.specs.declared.words.Form.{Form}
use Rattle.kdcdef_read.specs.declared.words.Form.TheVariants as forms
use Rattle.kdcdef_read.specs.Faults.{at_line}
use Rattle.kdcdef_read.specs.KeySets.{key_set_of}
use Rattle.kdcdef_read.specs.Operands.{first_cause, answer_of, passed_in}
use Rattle.kdcdef_read.specs.Said.{said_of}
use Rattle.kdcdef_read.specs.Words.{form_of}

-- the statement at this line
abbrev pub statement : ℕ → ℕ → Said → Statement
statement line passed said = record { line = line; passed = passed; said = said }

-- the operands that statements of a form share: MAX may be given several times, and gives an operand once in all
abbrev pub shared : Option Form → List RawOperand → List RawOperand
shared (Some (forms.Kept keywords.Max)) os = os
shared form os = []

-- what the statement at this line says, where no operand is missing
abbrev pub or_missing : ℕ → ℕ → Option Said → Result Statement ReadFault
or_missing line passed None = Err (OperandMissing line)
or_missing line passed (Some said) = Ok (statement line passed said)

-- the first fault of the operands, or what they say
abbrev pub unless : ℕ → Option Cause → Result Statement ReadFault → Result Statement ReadFault
unless line None statement = statement
unless line (Some cause) statement = Err (at_line line cause)

-- what a statement with this form says after these operands, or its fault
abbrev pub form_says : List RawOperand → RawStatement → Option Form → Result Statement ReadFault
form_says before r None = Err (UnknownStatement r.line)
form_says before r (Some forms.Passed) = Ok (statement r.line 0 Passed)
form_says before r (Some forms.End) = Ok (statement r.line (length r.operands) End)
form_says before r (Some (forms.Kept keyword)) =
    unless r.line (first_cause keyword before r.operands)
    (or_missing r.line (passed_in keyword r.operands) (said_of keyword (answer_of keyword r.operands) (key_set_of r.operands)))

-- what a statement says after these operands of MAX, or its fault
abbrev pub says_of : List RawOperand → RawStatement → Result Statement ReadFault
says_of before r = form_says (shared (form_of r.keyword) before) r (form_of r.keyword)

-- the statements say this, one after another, after these operands of MAX
abbrev pub Say : List RawOperand → List RawStatement → List Statement → Type 0
Say before [] [] = Unit {0}
Say before [] (s ∷ ss) = ⊥
Say before (r ∷ rs) [] = ⊥
Say before (r ∷ rs) (s ∷ ss) = (says_of before r ≡ Ok s) × Say (before ++ shared (form_of r.keyword) r.operands) rs ss

-- what the raw statements stand for: each says its own, the last is END, and no other is
abbrev pub StandFor : List RawStatement → List Statement → Type 0
StandFor rs ss = Say [] rs ss × EndsOnce ss

-- ---- faults

-- the fault of the statements after END
abbrev pub HasEndFault : List RawStatement → ReadFault → Type 0
HasEndFault [] fault = ⊥
HasEndFault (r ∷ rs) fault = fault ≡ AfterEnd r.line

-- the fault of what follows a statement that says this
abbrev pub HasNextFault : Said → List RawStatement → ReadFault → Type 0 → Type 0
HasNextFault End rs fault later = HasEndFault rs fault
HasNextFault said rs fault later = later

-- the first fault of the statements; n is one more than the line before them
abbrev pub HasFaultFrom : List RawOperand → ℕ → List RawStatement → ReadFault → Type 0
HasFaultFrom before n [] fault = fault ≡ NoEnd n
HasFaultFrom before n (r ∷ rs) fault =
    (says_of before r ≡ Err fault)
    ⊎ ((s : Statement) × (says_of before r ≡ Ok s)
    × HasNextFault s.said rs fault (HasFaultFrom (before ++ shared (form_of r.keyword) r.operands) (r.line + 1) rs fault))

-- the raw statements have this fault, and it is the first one
abbrev pub HasFault : List RawStatement → ReadFault → Type 0
HasFault rs fault = HasFaultFrom [] 1 rs fault
