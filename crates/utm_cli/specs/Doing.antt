-- What a call does, once its texts are read, over its KDCFILE.
use Rattle.std.specs.Prelude.{◌≡◌, ⊤, ℕ, List, [], ◌∷◌, length, Option, Some, None}
use Rattle.kdcs_types.specs.declared.act.Act.{Act}
use Rattle.kdcs_types.specs.declared.act.Act.TheVariants.{Emit}
use Rattle.kdcs_types.specs.Tables.{TableRows, empty_tables}
use Rattle.abstract_monitor.specs.Listing.{listing}
use Rattle.abstract_monitor.specs.Trace.{trace}
use Rattle.kd_update.specs.Carrying.{carried}
use Rattle.kd_update.specs.declared.error.UpdateError.TheVariants as cause
use Rattle.kdcfile_update.specs.Updating.{Stored, Takes, RefusesAs, report_of as update_report}
use Rattle.refusals.specs.declared.error.FileRefusal.{FileRefusal}
use Rattle.refusals.specs.declared.error.FileRefusal.TheVariants.{NotKdcfile, OtherGeneration, OtherBlksize, SmallerPool, TooManyGssbs, TooLarge, SequenceSpent, TwoCopies, Differs}
use Rattle.audit_trail.specs.declared.entry.Trail.{Trail as Kept}
use Rattle.trail_run.specs.InTurn.{AllHold}
use Rattle.trail_run.specs.Auditing.{IsFirstToDiffer, verdict_line}
use Rattle.trail_run.specs.Trailing.{text_of}
use Rattle.trail_run.specs.declared.trail_words.verdict.Verdict.TheVariants.{Holds}
use Rattle.call_parts.specs.MadeReport.{report_of}
use Rattle.call_parts.specs.declared.words.Word.{Word}
use Rattle.call_parts.specs.declared.words.Word.TheVariants.{Gen, Run, Show, Update, Trail, Audit, Make}
use Rattle.call_parts.specs.Asking.{Errand, app_of}
use Rattle.call_parts.specs.Report.{report}
use Rattle.call_parts.specs.Opening.{identity_of, Opens, OpeningRefuses}

-- tables in a file that is made for this errand
abbrev pub own : Errand → TableRows → Stored
own e t = record { identity = identity_of e; tables = t }

-- the KDCFILE with these bytes is opened, and is or will be made for this errand
pub record OpensWith (e : Errand) (bytes : List ℕ) (s : Stored) : Type 0 where
  pub own_texts : s.identity ≡ identity_of e
  pub opens : Opens e bytes s.tables

-- the KDCFILE with these bytes keeps this, and may be carried, or is of these texts
abbrev pub UpdateTakes : Errand → (bytes : List ℕ) → Stored → Type 0
UpdateTakes e bytes s = Takes e.application.generation e.fingerprint bytes s

-- all entries of the trail hold, one after another from its tables at the start, and this has these tables
pub record HoldsAll (e : Errand) (s : Stored) : Type 0 where
  pub trail : Kept
  pub is : e.trail ≡ Some trail
  pub start : s ≡ own e trail.start
  pub holds : AllHold (app_of e) trail.start trail.entries

-- an errand over the KDCFILE starts from the tables that it is opened with; `update` takes those of other texts too, where they may be carried; `audit` starts from those of a trail that holds, and `make` from the empty tables, whatever the file
abbrev pub StartsBy : Word → Errand → (bytes : List ℕ) → Stored → Type 0
StartsBy Gen e bytes s = OpensWith e bytes s
StartsBy Run e bytes s = OpensWith e bytes s
StartsBy Show e bytes s = OpensWith e bytes s
StartsBy Update e bytes s = UpdateTakes e bytes s
StartsBy Trail e bytes s = OpensWith e bytes s
StartsBy Audit e bytes s = HoldsAll e s
StartsBy (Make n) e bytes s = s ≡ own e empty_tables

-- the call starts from what this file keeps, where it has these bytes
abbrev pub Starts : Errand → (bytes : List ℕ) → Stored → Type 0
Starts e bytes s = StartsBy e.word e bytes s

-- the tables from which the application goes on: those that are stored, or under `update` those carried
abbrev pub tables_by : Word → Errand → Stored → TableRows
tables_by Gen e s = s.tables
tables_by Run e s = s.tables
tables_by Show e s = s.tables
tables_by Update e s = carried e.application.generation s.tables
tables_by Trail e s = s.tables
tables_by Audit e s = s.tables
tables_by (Make n) e s = s.tables

abbrev pub tables_of : Errand → Stored → TableRows
tables_of e s = tables_by e.word e s

-- the word looks into the KDCFILE of a BASE
abbrev pub IsOverFile : Word → Type 0
IsOverFile Gen = ⊤
IsOverFile Run = ⊤
IsOverFile Show = ⊤
IsOverFile Update = ⊤
IsOverFile Trail = ⊤
IsOverFile Audit = ⊥
IsOverFile (Make n) = ⊥

-- why what bytes stand for is not carried
abbrev pub UpdateRefuses : Errand → (bytes : List ℕ) → FileRefusal → Type 0
UpdateRefuses e bytes NotKdcfile = RefusesAs e.application.generation e.fingerprint bytes cause.NotKdcfile
UpdateRefuses e bytes (OtherGeneration stored) = ⊥
UpdateRefuses e bytes (OtherBlksize n) = RefusesAs e.application.generation e.fingerprint bytes (cause.OtherBlksize n)
UpdateRefuses e bytes (SmallerPool n) = RefusesAs e.application.generation e.fingerprint bytes (cause.SmallerPool n)
UpdateRefuses e bytes (TooManyGssbs n) = RefusesAs e.application.generation e.fingerprint bytes (cause.TooManyGssbs n)
UpdateRefuses e bytes (TooLarge n) = RefusesAs e.application.generation e.fingerprint bytes (cause.TooLarge n)
UpdateRefuses e bytes SequenceSpent = ⊥
UpdateRefuses e bytes TwoCopies = ⊥
UpdateRefuses e bytes (Differs n) = ⊥

-- the entry with this number is the first one of the trail that does not hold
abbrev pub DiffersAt : Errand → ℕ → Type 0
DiffersAt e number = (t : Kept) × (e.trail ≡ Some t) × IsFirstToDiffer (app_of e) t.start t.entries number

-- why a trail does not hold
abbrev pub AuditRefuses : Errand → FileRefusal → Type 0
AuditRefuses e why = (number : ℕ) × (why ≡ Differs number) × DiffersAt e number

abbrev pub RefusesBy : Word → Errand → (bytes : List ℕ) → FileRefusal → Type 0
RefusesBy Gen e bytes why = OpeningRefuses e bytes why
RefusesBy Run e bytes why = OpeningRefuses e bytes why
RefusesBy Show e bytes why = OpeningRefuses e bytes why
RefusesBy Update e bytes why = UpdateRefuses e bytes why
RefusesBy Trail e bytes why = OpeningRefuses e bytes why
RefusesBy Audit e bytes why = AuditRefuses e why
RefusesBy (Make n) e bytes why = ⊥

-- the call refuses a file with these bytes, or its trail does not hold
abbrev pub Refuses : Errand → (bytes : List ℕ) → FileRefusal → Type 0
Refuses e bytes why = RefusesBy e.word e bytes why

-- the trail of the script's run from these tables, as a text
unfoldable pub trail_of : Errand → TableRows → List ℕ
trail_of e t = text_of (app_of e) e.fingerprint t e.commands

-- how many entries a trail has
abbrev pub entry_count : Option Kept → ℕ
entry_count None = 0
entry_count (Some t) = length t.entries

-- the line of a trail that holds
abbrev pub held_line : Errand → List ℕ
held_line e = verdict_line (Holds (entry_count e.trail))

-- the report of `gen`, the trace of the script's commands, the list of `show`, the report of `update`, the text of `trail`, the line of a trail that holds, or the report of `make`
abbrev pub acts_by : Word → Errand → Stored → List Act
acts_by Gen e s = report e.application.generation
acts_by Run e s = trace (app_of e) s.tables e.commands
acts_by Show e s = Emit (listing s.tables) ∷ []
acts_by Update e s = update_report e.application.generation e.fingerprint s
acts_by Trail e s = Emit (trail_of e s.tables) ∷ []
acts_by Audit e s = Emit (held_line e) ∷ []
acts_by (Make n) e s = Emit (report_of n (app_of e) e.commands) ∷ []

-- the acts of an errand from what is stored
abbrev pub acts_of : Errand → Stored → List Act
acts_of e s = acts_by e.word e s
