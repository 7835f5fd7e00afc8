-- What holds of every trail that was read.
use Rattle.std.specs.Prelude.{◌≡◌, ◌≤◌, ⊤, ◌⊎◌, IsTrue, Option, Some, None, All}
use Rattle.kd_base.specs.Text.{IsName}
use Rattle.kdcs_types.specs.declared.act.Change.{Change}
use Rattle.kdcs_types.specs.declared.act.Change.TheVariants.{Set, Remove}
use Rattle.kdcs_types.specs.declared.act.Changes.{Changes}
use Rattle.kdcs_types.specs.declared.act.Row.TheVariants.{Service as ServiceRow}
use Rattle.kdcs_types.specs.declared.call.Code.{Code}
use Rattle.kdcs_types.specs.declared.call.Code.TheVariants.{K04, K05}
use Rattle.kdcs_types.specs.declared.key.Key.TheVariants.{Service as ServiceKey}
use Rattle.kdcs_types.specs.declared.key.ServiceId.{ServiceId}
use Rattle.kdcs_types.specs.declared.service.Note.{Note}
use Rattle.kdcs_types.specs.declared.service.Note.TheVariants.{Released, Refused}
use Rattle.kdcs_types.specs.declared.service.Service.{Service}
use Rattle.kdcs_types.specs.declared.service.Settled.{Settled}
use Rattle.kdcs_types.specs.Keys.{area_key}
use Rattle.kdcs_types.specs.Tables.{AreChanges, IsSortedTables, row_fits}
use Rattle.record_codec.specs.Order.{IsProperKey}
use Rattle.record_codec.specs.RowReadings.{IsProperRow}
use Rattle.record_codec.specs.TableReadings.{AreProperTables}
use Rattle.audit_trail.specs.declared.entry.By.{By}
use Rattle.audit_trail.specs.declared.entry.By.TheVariants.{Tick, Shown, Transaction}
use Rattle.audit_trail.specs.declared.entry.Trail.{Trail}
use Rattle.audit_trail.specs.declared.entry.TrailEntry.{TrailEntry}
use Rattle.audit_trail.specs.declared.place.Place.{Place}
use Rattle.audit_trail.specs.declared.place.Place.TheVariants.{First, Second, Rows, Made, Changing, Ended}
use Rattle.audit_trail.specs.KeptReadings.{last_statement}

-- ---- what made a commit

-- the row at the beginning is one that this service may have
abbrev pub IsRowOf : ServiceId → Option Service → Type 0
IsRowOf id None = ⊤
IsRowOf id (Some row) = IsProperRow (ServiceRow id row) × IsTrue (row_fits (ServiceRow id row))

-- a request is refused with one of these
abbrev pub IsRefusal : Code → Type 0
IsRefusal code = (code ≡ K04) ⊎ (code ≡ K05)

abbrev pub IsNote : Note → Type 0
IsNote (Released area content) = IsProperKey (area_key area)
IsNote (Refused area code) = IsProperKey (area_key area) × IsRefusal code

-- what a transaction may have kept
pub record IsKeptRecord (kept : Settled) : Type 0 where
  pub service : IsProperKey (ServiceKey kept.service)
  pub began : IsRowOf kept.service kept.began
  pub notes : All IsNote kept.notes
  pub statements : kept.statements ≤ last_statement

abbrev pub IsMaker : By → Type 0
IsMaker (Tick ticks) = ⊤
IsMaker (Shown lterm) = IsName lterm
IsMaker (Transaction kept) = IsKeptRecord kept

-- ---- changes, entries and trails

abbrev pub IsProperChange : Change → Type 0
IsProperChange (Set row) = IsProperRow row
IsProperChange (Remove key) = IsProperKey key

-- changes that tables take, with keys and rows that records have
pub record AreProperChanges (c : Changes) : Type 0 where
  pub changes : AreChanges c.items
  pub proper : All IsProperChange c.items

pub record IsEntry (e : TrailEntry) : Type 0 where
  pub by : IsMaker e.by
  pub changes : AreProperChanges e.changes

pub record IsTrail (t : Trail) : Type 0 where
  pub sorted : IsSortedTables t.start
  pub proper : AreProperTables t.start
  pub entries : All IsEntry t.entries

-- what was read up to a place is a trail so far
abbrev pub IsOrdered : Place → Type 0
IsOrdered First = ⊤
IsOrdered (Second fingerprint) = ⊤
IsOrdered (Rows fingerprint start) = AreProperChanges start
IsOrdered (Made trail by) = IsTrail trail × IsMaker by
IsOrdered (Changing trail entry) = IsTrail trail × IsEntry entry
IsOrdered (Ended trail) = IsTrail trail
