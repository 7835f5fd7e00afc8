-- What was written into a trail is read again.
use Rattle.std.specs.Prelude.{◌≡◌, ℕ, ◌<◌, ◌≤◌, ◌^◌, List, length, All, Ok}
use Rattle.kd_base.specs.Limits.{longest_text}
use Rattle.kd_base.specs.Text.{IsName}
use Rattle.kdcs_types.specs.Tables.{TableRows, IsSortedTables}
use Rattle.record_codec.specs.Fields.{AreBytes}
use Rattle.record_codec.specs.Records.{content_of_tables, patch_of}
use Rattle.record_codec.specs.TableReadings.{AreRecordBytes, AreProperTables}
use Rattle.audit_trail.specs.declared.entry.By.{By}
use Rattle.audit_trail.specs.declared.entry.By.TheVariants.{Tick, Shown, Transaction}
use Rattle.audit_trail.specs.declared.entry.TrailEntry.{TrailEntry}
use Rattle.audit_trail.specs.Facts.{IsKeptRecord, AreProperChanges}
use Rattle.audit_trail.specs.Places.{trail_in, trail_of}
use Rattle.audit_trail.specs.Printed.{trail_text}
use Rattle.audit_trail.specs.Written.{HasShortParts, AreMakerBytes, AreChangeBytes}

-- a number of 1 to 18 digits
abbrev pub HasFewDigits : ℕ → Type 0
HasFewDigits n = n < 10 ^ 18

abbrev pub IsWritableMaker : By → Type 0
IsWritableMaker (Tick ticks) = HasFewDigits ticks
IsWritableMaker (Shown lterm) = IsName lterm
IsWritableMaker (Transaction kept) = IsKeptRecord kept × HasShortParts kept

-- an entry whose parts a line can say
pub record IsWritable (e : TrailEntry) : Type 0 where
  pub by : IsWritableMaker e.by
  pub by_bytes : AreMakerBytes e.by
  pub clock : HasFewDigits e.changes.clock
  pub next_job : HasFewDigits e.changes.next_job
  pub changes : AreProperChanges e.changes
  pub bytes : All AreChangeBytes (patch_of e.changes).items

-- a fingerprint, tables and entries whose parts lines can say
pub record AreWritable (fingerprint : List ℕ) (start : TableRows) (entries : List TrailEntry) : Type 0 where
  pub fingerprint_length : length fingerprint ≡ 32
  pub fingerprint_bytes : AreBytes fingerprint
  pub clock : HasFewDigits start.clock
  pub next_job : HasFewDigits start.next_job
  pub sorted : IsSortedTables start
  pub proper : AreProperTables start
  pub bytes : All AreRecordBytes (content_of_tables start).items
  pub all : All IsWritable entries

-- a trail that was written is read, unless its text is too long
abbrev pub TrailsComeBack : Type 0
TrailsComeBack =
    (fingerprint : List ℕ) (start : TableRows) (entries : List TrailEntry) → AreWritable fingerprint start entries → length (trail_text fingerprint start entries) ≤ longest_text
    → trail_in (trail_text fingerprint start entries) ≡ Ok (trail_of fingerprint start entries)
