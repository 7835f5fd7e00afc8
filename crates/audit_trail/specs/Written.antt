-- What can be written into a trail.
use Rattle.std.specs.Prelude.{⊤, Option, Some, None, All}
use Rattle.kd_records.specs.Contents.{Change as RecordChange}
use Rattle.kdcs_types.specs.declared.service.Note.{Note}
use Rattle.kdcs_types.specs.declared.service.Note.TheVariants.{Released, Refused}
use Rattle.kdcs_types.specs.declared.service.Service.{Service}
use Rattle.kdcs_types.specs.declared.service.Settled.{Settled}
use Rattle.record_codec.specs.Fields.{AreBytes, IsShort}
use Rattle.record_codec.specs.Records.{patch_of}
use Rattle.record_codec.specs.TableReadings.{AreRecordBytes}
use Rattle.record_codec.specs.Values.{service_bytes, last_bytes, HasShortChange}
use Rattle.audit_trail.specs.declared.entry.By.{By}
use Rattle.audit_trail.specs.declared.entry.By.TheVariants.{Tick, Shown, Transaction}
use Rattle.audit_trail.specs.declared.entry.TrailEntry.{TrailEntry}
use Rattle.audit_trail.specs.Kept.{kept_bytes}

-- ---- lengths that have four bytes

abbrev pub HasShortRow : Option Service → Type 0
HasShortRow None = ⊤
HasShortRow (Some row) = IsShort (service_bytes row)

abbrev pub HasShortNote : Note → Type 0
HasShortNote (Released area content) = IsShort (last_bytes content)
HasShortNote (Refused area code) = ⊤

pub record HasShortParts (kept : Settled) : Type 0 where
  pub began : HasShortRow kept.began
  pub inputs : All IsShort kept.inputs
  pub notes : All HasShortNote kept.notes

abbrev pub HasShortMaker : By → Type 0
HasShortMaker (Tick ticks) = ⊤
HasShortMaker (Shown lterm) = ⊤
HasShortMaker (Transaction kept) = HasShortParts kept

-- the values that are set, and the parts of what a transaction kept, have lengths of four bytes
pub record HasShortEntry (e : TrailEntry) : Type 0 where
  pub by : HasShortMaker e.by
  pub changes : All HasShortChange e.changes.items

-- ---- bytes

abbrev pub AreChangeBytes : RecordChange → Type 0
AreChangeBytes (k, Some value) = AreRecordBytes (k, value)
AreChangeBytes (k, None) = AreBytes k.bytes

abbrev pub AreMakerBytes : By → Type 0
AreMakerBytes (Tick ticks) = ⊤
AreMakerBytes (Shown lterm) = ⊤
AreMakerBytes (Transaction kept) = AreBytes (kept_bytes kept)

-- what is written in hexadecimal are bytes
pub record AreEntryBytes (e : TrailEntry) : Type 0 where
  pub by : AreMakerBytes e.by
  pub changes : All AreChangeBytes (patch_of e.changes).items
