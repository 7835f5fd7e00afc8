-- Which line may stand in which place of a trail, and what a text says.
use Rattle.std.specs.Prelude.{ℕ, ◌+◌, Bool, true, false, List, [], ◌∷◌, ◌++◌, length, nat_lt, if◌then◌else◌, Option, Some, None, option_and_then, Result, Ok, Err}
use Rattle.std.specs.Option.{option_map}
use Rattle.std.specs.Str.Lines.{lines}
use Rattle.kd_base.specs.Limits.{longest_text}
use Rattle.kdcs_types.specs.declared.act.Change.{Change}
use Rattle.kdcs_types.specs.declared.act.Change.TheVariants.{Set, Remove}
use Rattle.kdcs_types.specs.declared.act.Changes.{Changes}
use Rattle.kdcs_types.specs.Keyed.{ascends}
use Rattle.kdcs_types.specs.Tables.{TableRows, empty_tables, changed, change_key}
use Rattle.record_codec.specs.TableReadings.{changes_of}
use Rattle.audit_trail.specs.declared.entry.By.{By}
use Rattle.audit_trail.specs.declared.entry.Trail.{Trail}
use Rattle.audit_trail.specs.declared.entry.TrailEntry.{TrailEntry}
use Rattle.audit_trail.specs.declared.fault.TrailFault.{TrailFault}
use Rattle.audit_trail.specs.declared.fault.TrailFault.TheVariants.{BadLine, TooLong}
use Rattle.audit_trail.specs.declared.line.Line.{Line}
use Rattle.audit_trail.specs.declared.line.Line.TheVariants as says
use Rattle.audit_trail.specs.declared.place.Place.{Place}
use Rattle.audit_trail.specs.declared.place.Place.TheVariants.{First, Second, Rows, Made, Changing, Ended}
use Rattle.audit_trail.specs.Lines.{line_in}

-- ---- trails and changes that grow

abbrev pub trail_of : List ℕ → TableRows → List TrailEntry → Trail
trail_of fingerprint start entries = record { fingerprint = fingerprint; start = start; entries = entries }

abbrev pub entry_of : By → Changes → TrailEntry
entry_of by changes = record { by = by; changes = changes }

abbrev pub with_entry : Trail → TrailEntry → Trail
with_entry trail entry = trail_of trail.fingerprint trail.start (trail.entries ++ entry ∷ [])

-- one change more, whose key is greater than those before it
abbrev pub with_next : Changes → Change → Option Changes
with_next c next = if ascends change_key (c.items ++ next ∷ []) then Some (changes_of c.clock c.next_job (c.items ++ next ∷ [])) else None

-- ---- what each line makes of a place

abbrev pub with_fingerprint : Place → List ℕ → Option Place
with_fingerprint First fingerprint = Some (Second fingerprint)
with_fingerprint (Second before) fingerprint = None
with_fingerprint (Rows before start) fingerprint = None
with_fingerprint (Made trail by) fingerprint = None
with_fingerprint (Changing trail entry) fingerprint = None
with_fingerprint (Ended trail) fingerprint = None

abbrev pub with_start : Place → ℕ → ℕ → Option Place
with_start First clock next = None
with_start (Second fingerprint) clock next = Some (Rows fingerprint (changes_of clock next []))
with_start (Rows fingerprint start) clock next = None
with_start (Made trail by) clock next = None
with_start (Changing trail entry) clock next = None
with_start (Ended trail) clock next = None

abbrev pub with_commit : Place → ℕ → ℕ → Option Place
with_commit First clock next = None
with_commit (Second fingerprint) clock next = None
with_commit (Rows fingerprint start) clock next = None
with_commit (Made trail by) clock next = Some (Changing trail (entry_of by (changes_of clock next [])))
with_commit (Changing trail entry) clock next = None
with_commit (Ended trail) clock next = None

-- the tables at the start have rows alone, so no row of them is removed
abbrev pub with_row_at_start : List ℕ → Changes → Change → Option Place
with_row_at_start fingerprint start (Set row) = option_map (Rows fingerprint) (with_next start (Set row))
with_row_at_start fingerprint start (Remove key) = None

abbrev pub changing : Trail → By → Changes → Place
changing trail by changes = Changing trail (entry_of by changes)

abbrev pub with_change : Place → Change → Option Place
with_change First change = None
with_change (Second fingerprint) change = None
with_change (Rows fingerprint start) change = with_row_at_start fingerprint start change
with_change (Made trail by) change = None
with_change (Changing trail entry) change = option_map (changing trail entry.by) (with_next entry.changes change)
with_change (Ended trail) change = None

-- the trail up to here, where an entry or the end may follow
abbrev pub so_far : Place → Option Trail
so_far First = None
so_far (Second fingerprint) = None
so_far (Rows fingerprint start) = Some (trail_of fingerprint (changed empty_tables start) [])
so_far (Made trail by) = None
so_far (Changing trail entry) = Some (with_entry trail entry)
so_far (Ended trail) = None

abbrev pub made : By → Trail → Place
made by trail = Made trail by

abbrev pub ended : Trail → Place
ended trail = Ended trail

-- the place after a line that may stand in this one
abbrev pub step : Place → Line → Option Place
step place (says.Trail fingerprint) = with_fingerprint place fingerprint
step place (says.Start clock next) = with_start place clock next
step place (says.Made by) = option_map (made by) (so_far place)
step place (says.Commit clock next) = with_commit place clock next
step place (says.Change change) = with_change place change
step place says.End = option_map ended (so_far place)

-- ---- texts

-- a trail is whole after its END line
abbrev pub at_end : ℕ → Place → Result Trail TrailFault
at_end number First = Err (BadLine number)
at_end number (Second fingerprint) = Err (BadLine number)
at_end number (Rows fingerprint start) = Err (BadLine number)
at_end number (Made trail by) = Err (BadLine number)
at_end number (Changing trail entry) = Err (BadLine number)
at_end number (Ended trail) = Ok trail

-- what follows in the next place, or the fault of the line with this number
abbrev pub then_from : ℕ → Option Place → (Place → Result Trail TrailFault) → Result Trail TrailFault
then_from number None from = Err (BadLine number)
then_from number (Some place) from = from place

-- the place after this line
abbrev pub after_line : Place → List ℕ → Option Place
after_line place line = option_and_then (step place) (line_in line)

-- the trail of lines numbered from this one, the first of which stands in this place, or the fault of the first bad line
abbrev pub trail_from : Place → ℕ → List (List ℕ) → Result Trail TrailFault
trail_from place number [] = at_end number place
trail_from place number (line ∷ rest) = then_from number (after_line place line) (λ next. trail_from next (number + 1) rest)

abbrev pub trail_by : Bool → List ℕ → Result Trail TrailFault
trail_by true text = Err TooLong
trail_by false text = trail_from First 1 (lines text)

-- the trail that a text says, or its first fault
abbrev pub trail_in : List ℕ → Result Trail TrailFault
trail_in text = trail_by (nat_lt longest_text (length text)) text
