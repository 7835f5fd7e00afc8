-- Statements read one after another, as the reader does.
use Rattle.std.specs.Prelude.{ℕ, ◌+◌, Bool, true, false, List, [], ◌∷◌, ◌++◌, length, Option, Some, None, Result, Ok, Err, if◌then◌else◌, replicate}
use Rattle.kd_base.specs.FirstFaults.{GivesUnless}
use Rattle.kd_base.specs.Tools.{◌>>=◌}
use Rattle.texts.specs.declared.kdcdef_lex.statement.RawOperand.{RawOperand}
use Rattle.texts.specs.declared.kdcdef_lex.statement.RawStatement.{RawStatement}
use Rattle.application_types.specs.declared.kdcdef_types.statement.Said.{Said}
use Rattle.application_types.specs.declared.kdcdef_types.statement.Said.TheVariants as says
use Rattle.application_types.specs.declared.kdcdef_types.statement.Statement.{Statement}
use Rattle.kdcdef_read.specs.declared.fault.Cause.{Cause}
use Rattle.kdcdef_read.specs.declared.fault.ReadFault.{ReadFault}
use Rattle.kdcdef_read.specs.declared.fault.ReadFault.TheVariants.{UnknownStatement, AfterEnd, NoEnd}
use Rattle.kdcdef_read.specs.declared.operands.Given.{Given}
use Rattle.kdcdef_read.specs.declared.statement.Progress.{Progress}
use Rattle.kdcdef_read.specs.declared.words.Keyword.{Keyword}
use Rattle.kdcdef_read.specs.declared.words.Keyword.TheVariants as keywords
use Rattle.kdcdef_read.specs.declared.words.Form.{Form}
use Rattle.kdcdef_read.specs.declared.words.Form.TheVariants as forms
use Rattle.kdcdef_read.specs.Faults.{at_line, is_memory}
use Rattle.kdcdef_read.specs.Words.{form_of}
use Rattle.kdcdef_read.specs.KeySets.{key_set_of}
use Rattle.kdcdef_read.specs.Said.{said_of}
use Rattle.kdcdef_read.specs.Filling.{answers, read_operands}
use Rattle.kdcdef_read.specs.Meaning.{statement, or_missing}

-- what a function returned is what reading gives, unless memory ran out
abbrev pub Gives : {X : Type 0} → Result X ReadFault → Result X ReadFault → Type 0
Gives returned read = GivesUnless is_memory returned read

-- no key was given
abbrev pub no_keys : List Bool
no_keys = replicate 28 false

-- the first for MAX, and else the second
abbrev pub for_max : Keyword → List Bool → List Bool → List Bool
for_max keywords.Max own other = own
for_max keyword own other = other

-- the statement that what was given makes
abbrev pub said_by : Keyword → ℕ → List RawOperand → Given → Result Statement ReadFault
said_by keyword line os given = or_missing line given.passed (said_of keyword (answers keyword given.slots) (key_set_of os))

abbrev pub with_taken : List Bool → Statement → Result (Statement × List Bool) ReadFault
with_taken taken s = Ok (s, taken)

abbrev pub given_by : Keyword → List Bool → ℕ → List RawOperand → Result Given Cause → Result (Statement × List Bool) ReadFault
given_by keyword taken line os (Err cause) = Err (at_line line cause)
given_by keyword taken line os (Ok given) = said_by keyword line os given >>= with_taken (for_max keyword given.taken taken)

abbrev pub kept_by : Keyword → List Bool → RawStatement → Result (Statement × List Bool) ReadFault
kept_by keyword taken r = given_by keyword taken r.line r.operands (read_operands keyword (for_max keyword taken no_keys) r.operands)

abbrev pub form_by : List Bool → RawStatement → Option Form → Result (Statement × List Bool) ReadFault
form_by taken r None = Err (UnknownStatement r.line)
form_by taken r (Some forms.Passed) = Ok (statement r.line 0 says.Passed, taken)
form_by taken r (Some forms.End) = Ok (statement r.line (length r.operands) says.End, taken)
form_by taken r (Some (forms.Kept keyword)) = kept_by keyword taken r

-- a statement, and the keys of MAX that are taken after it
abbrev pub statement_by : List Bool → RawStatement → Result (Statement × List Bool) ReadFault
statement_by taken r = form_by taken r (form_of r.keyword)

abbrev pub is_end : Said → Bool
is_end says.End = true
is_end said = false

abbrev pub behind : ℕ → Statement × List Bool → Result (Statement × Progress) ReadFault
behind line p = Ok (p.0, record { taken = p.1; ended = is_end p.0.said; next = line + 1 })

-- the next statement, and where the reading is after it
abbrev pub step : Progress → RawStatement → Result (Statement × Progress) ReadFault
step progress r = if progress.ended then Err (AfterEnd r.line) else (statement_by progress.taken r >>= behind r.line)

abbrev pub with_front : List Statement → Result (List Statement) ReadFault → Result (List Statement) ReadFault
with_front front read = read >>= λ ss. Ok (front ++ ss)

-- the statements from here on
abbrev pub read_from : Progress → List RawStatement → Result (List Statement) ReadFault
read_from progress [] = if progress.ended then Ok [] else Err (NoEnd progress.next)
read_from progress (r ∷ rs) = step progress r >>= λ p. with_front (p.0 ∷ []) (read_from p.1 rs)

abbrev pub at_start : Progress
at_start = record { taken = no_keys; ended = false; next = 1 }

abbrev pub read_all : List RawStatement → Result (List Statement) ReadFault
read_all rs = read_from at_start rs
