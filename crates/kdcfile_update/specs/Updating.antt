-- Which files are carried to a new generation, and what is left of one.
use Rattle.std.specs.Prelude.{◌≡◌, ⊤, ◌⊎◌, ℕ, Bool, true, false, List, ◌++◌, Result, Ok, Err}
use Rattle.kd_device.specs.Device.{State, Only}
use Rattle.kd_records.specs.Identity.{Identity}
use Rattle.kdcs_types.specs.declared.act.Act.{Act}
use Rattle.kdcs_types.specs.Tables.{TableRows}
use Rattle.application_types.specs.Generation.{Generated}
use Rattle.abstract_monitor.specs.Trace.{tables_after, bytes_of}
use Rattle.laws_of_states.specs.Suits.{Suits}
use Rattle.record_codec.specs.Records.{content_of_tables}
use Rattle.kdcfile_store.specs.Carried.{carry_most}
use Rattle.device_acts.specs.Opening.{HasNoTablesFor}
use Rattle.device_acts.specs.Stands.{AreTables, StandsForTables, identity_for}
use Rattle.kd_update.specs.Carrying.{carried}
use Rattle.kd_update.specs.Judging.{judged}
use Rattle.kd_update.specs.declared.error.UpdateError.{UpdateError}
use Rattle.kd_update.specs.declared.error.UpdateError.TheVariants.{NotKdcfile}
use Rattle.device_acts.specs.Acting.{IsCutOf, WritesUpTo}
use Rattle.kdcfile_update.specs.Report.{is_same_print, report_by}

-- what a file was made with, and the tables that it keeps
pub record Stored : Type 0 where
  pub identity : Identity
  pub tables : TableRows

-- the file is of these texts, and its tables suit: nothing is to be done
pub record IsUpToDate (g : Generated) (fingerprint : List ℕ) (s : Stored) : Type 0 where
  pub identity_is : s.identity ≡ identity_for g fingerprint
  pub suits : Suits g s.tables

-- how tables of other texts are judged
abbrev pub judgement : Generated → Stored → Result ⊤ UpdateError
judgement g s = judged g s.identity.blksize s.identity.pages s.tables (carried g s.tables)

-- the file is of other texts, and its tables may be carried
pub record MayCarry (g : Generated) (fingerprint : List ℕ) (s : Stored) : Type 0 where
  pub differs : s.identity.fingerprint ≡ fingerprint → ⊥
  pub judged : judgement g s ≡ Ok tt

-- nothing is to be done, or the tables may be carried
abbrev pub IsTaken : Generated → (fingerprint : List ℕ) → Stored → Type 0
IsTaken g fingerprint s = IsUpToDate g fingerprint s ⊎ MayCarry g fingerprint s

-- the bytes stand for these tables, and are taken
pub record Takes (g : Generated) (fingerprint bytes : List ℕ) (s : Stored) : Type 0 where
  pub stands : StandsForTables s.identity s.tables bytes
  pub how : IsTaken g fingerprint s

-- the bytes stand for tables of other texts, which are judged so
pub record IsJudgedSo (g : Generated) (fingerprint bytes : List ℕ) (why : UpdateError) : Type 0 where
  pub stored : Stored
  pub stands : StandsForTables stored.identity stored.tables bytes
  pub differs : stored.identity.fingerprint ≡ fingerprint → ⊥
  pub judged : judgement g stored ≡ Err why

-- the bytes stand for no tables, or for some of these texts that do not suit; or those of other texts are judged so
abbrev pub RefusesAs : Generated → (fingerprint bytes : List ℕ) → UpdateError → Type 0
RefusesAs g fingerprint bytes why = ((why ≡ NotKdcfile) × HasNoTablesFor g fingerprint bytes) ⊎ IsJudgedSo g fingerprint bytes why

-- a file is answered in one way
pub record HasOneUpdate (g : Generated) (fingerprint bytes : List ℕ) : Type 0 where
  pub taken_once : (s u : Stored) → Takes g fingerprint bytes s → Takes g fingerprint bytes u → s ≡ u
  pub taken_or_refused : (s : Stored) (why : UpdateError) → Takes g fingerprint bytes s → RefusesAs g fingerprint bytes why → ⊥
  pub refused_once : (why again : UpdateError) → RefusesAs g fingerprint bytes why → RefusesAs g fingerprint bytes again → why ≡ again

abbrev pub UpdateAnswersExcludeEachOther : Type 0
UpdateAnswersExcludeEachOther = (g : Generated) (fingerprint bytes : List ℕ) → HasOneUpdate g fingerprint bytes

-- the tables with which an application goes on from a file that is taken are in order and suit it
pub record TablesSuit (g : Generated) (t : TableRows) : Type 0 where
  pub tables : AreTables t
  pub suits : Suits g t

-- the report of a file that is taken
abbrev pub report_of : Generated → (fingerprint : List ℕ) → Stored → List Act
report_of g fingerprint s = report_by (is_same_print s.identity.fingerprint fingerprint) g s.tables

-- nothing was sent and the image stands for the old tables as they were made; or a cut of the report over the new ones
abbrev pub IsUpdateCut : Generated → (fingerprint : List ℕ) → Stored → (sent image out : List ℕ) → Type 0
IsUpdateCut g fingerprint s sent image out =
    ((out ≡ sent) × StandsForTables s.identity s.tables image)
    ⊎ IsCutOf tables_after (StandsForTables (identity_for g fingerprint)) (carried g s.tables) (report_of g fingerprint s) sent image out

-- the whole report was sent, the file stands for the new tables with the new identity, and a stop leaves just it
pub record IsUpdated (g : Generated) (fingerprint : List ℕ) (s : Stored) (a b : State) (lb : ℕ → List ℕ → List ℕ → Type 0) : Type 0 where
  pub sent : b.sent ≡ a.sent ++ bytes_of (report_of g fingerprint s)
  pub holds : StandsForTables (identity_for g fingerprint) (carried g s.tables) b.holds
  pub at_rest : Only b.holds b lb

-- how many bytes are written at most: none where the file is up to date
abbrev pub most_by : (same : Bool) → Identity → TableRows → ℕ
most_by true i t = 0
most_by false i t = carry_most i (content_of_tables t)

abbrev pub update_most : Generated → (fingerprint : List ℕ) → Stored → ℕ
update_most g fingerprint s = most_by (is_same_print s.identity.fingerprint fingerprint) (identity_for g fingerprint) (carried g s.tables)

-- nothing was written, or the file is taken and the bytes written are at most those
abbrev pub UpdateWrites : Generated → (fingerprint : List ℕ) → (a b : State) → Type 0
UpdateWrites g fingerprint a b =
    (b.put ≡ a.put) ⊎ ((s : Stored) × Takes g fingerprint a.holds s × WritesUpTo (λ acts. update_most g fingerprint s) (report_of g fingerprint s) a b)
