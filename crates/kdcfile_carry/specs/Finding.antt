-- The copy that counts of two files, and the tables that it keeps.
use Rattle.std.specs.Prelude.{◌≡◌, ℕ, false, IsTrue, List, Some}
use Rattle.kd_device.specs.Twin.{other}
use Rattle.kd_device.specs.declared.half.Half.{Half}
use Rattle.kd_device.specs.declared.half.Half.TheVariants.{Second}
use Rattle.kdcs_types.specs.Tables.{TableRows}
use Rattle.record_codec.specs.Records.{content_of_tables}
use Rattle.device_acts.specs.Stands.{AreTables}
use Rattle.kdcfile_store.specs.Paged.{HasFile}
use Rattle.kdcfile_copies.specs.Beside.{file_of}
use Rattle.kdcfile_copies.specs.Copies.{Below, IsChosen, IsCopyOf, bare}
use Rattle.kdcfile_carry.specs.declared.finding.Counted.{Counted}
use Rattle.kdcfile_carry.specs.declared.finding.Kept.{Kept}

-- the copy is the one that counts of these two files
pub record AreCounted (k : Counted) (a b : List ℕ) : Type 0 where
  pub chosen : IsChosen k.copy.store.identity k.copy.sequence (bare k.copy.store.content) a b
  pub has : HasFile k.copy.store (file_of k.home a b)
  pub behind : k.home ≡ Second → Below k.copy.sequence a
  pub alike : IsTrue k.alike → (half : Half) → IsCopyOf k.copy.store.identity k.copy.sequence (bare k.copy.store.content) (file_of half a b)
  pub unlike : k.alike ≡ false → IsCopyOf k.copy.store.identity k.copy.sequence (bare k.copy.store.content) (file_of (other k.home) a b) → ⊥

-- it keeps no tables
abbrev pub KeepsNoTables : Counted → Type 0
KeepsNoTables k = (t : TableRows) → AreTables t → bare k.copy.store.content ≡ content_of_tables t → ⊥

-- its tables were taken out of it
pub record IsKeptIn (k : Kept) (from : Counted) : Type 0 where
  pub store : k.file.store ≡ from.copy.store
  pub sequence : k.sequence ≡ Some from.copy.sequence
  pub home : k.home ≡ from.home
  pub alike : k.alike ≡ from.alike
  pub tables : AreTables k.tables
  pub records : bare k.file.store.content ≡ content_of_tables k.tables
