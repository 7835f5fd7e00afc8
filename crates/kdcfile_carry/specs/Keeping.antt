-- What was found in two files, and what each of them is beside the other one.
use Rattle.std.specs.Prelude.{◌≡◌, ◌<◌, ◌^◌, ℕ, false, IsTrue, List, Option, Some, None, IfSome}
use Rattle.kd_device.specs.Twin.{other}
use Rattle.kd_device.specs.declared.half.Half.{Half}
use Rattle.kd_device.specs.declared.half.Half.TheVariants.{First, Second}
use Rattle.kd_records.specs.Contents.{IsContent}
use Rattle.kd_records.specs.Identity.{Identity, IsIdentity}
use Rattle.kd_records.specs.declared.content.Content.{Content}
use Rattle.kdcs_types.specs.Tables.{TableRows}
use Rattle.record_codec.specs.Records.{content_of_tables}
use Rattle.device_acts.specs.Stands.{AreTables, StandsForNoTables}
use Rattle.kdcfile_store.specs.Paged.{HasFile}
use Rattle.kdcfile_copies.specs.Beside.{file_of}
use Rattle.kdcfile_copies.specs.Copies.{AtMost, IsCopyOf, IsNoCopy, with_sequence}
use Rattle.kdcfile_double.specs.Twice.{StaysBehind}
use Rattle.kdcfile_carry.specs.declared.finding.Kept.{Kept}
use Rattle.kdcfile_carry.specs.Files.{AreFiles, Files}

-- the content of a file by itself, or of a copy
abbrev pub content_by : Option ℕ → Content → Content
content_by None x = x
content_by (Some n) x = with_sequence n x

-- the file beside one by itself, or beside the copy that counts where that is the first one
abbrev pub BesideBy : Option ℕ → List ℕ → Type 0
BesideBy None d = IsNoCopy d
BesideBy (Some n) d = AtMost n d

-- this half has the copy that counts, and the other one stays behind
pub record IsSource (half : Half) (i : Identity) (n : ℕ) (t : TableRows) (c d : List ℕ) : Type 0 where
  pub tables : AreTables t
  pub copy : IsCopyOf i n (content_of_tables t) (file_of half c d)
  pub behind : StaysBehind (other half) i n (content_of_tables t) (file_of (other half) c d)
  pub none : StandsForNoTables c

-- what was found, as files
abbrev pub files_in : Kept → Files
files_in k = record { identity = k.file.store.identity; tables = k.tables; sequence = k.sequence }

-- what is known of it on any twin
pub record IsKnown (k : Kept) : Type 0 where
  pub identity : IsIdentity k.file.store.identity
  pub content : IsContent k.file.store.content
  pub tables : AreTables k.tables
  pub records : k.file.store.content ≡ content_by k.sequence (content_of_tables k.tables)
  pub small : IfSome k.sequence (λ n. n < 2 ^ 64)
  pub first : k.sequence ≡ None → k.home ≡ First
  pub alone : k.sequence ≡ None → IsTrue k.alike

-- it is that of these two files
pub record IsIn (k : Kept) (c d : List ℕ) : Type 0 where
  pub files : AreFiles (files_in k) c d
  pub has : HasFile k.file.store (file_of k.home c d)
  pub source : (n : ℕ) → k.sequence ≡ Some n → IsSource k.home k.file.store.identity n k.tables c d
  pub first_not : k.home ≡ Second → (n : ℕ) → k.sequence ≡ Some n → IsCopyOf k.file.store.identity n (content_of_tables k.tables) c → ⊥
  pub alike : IsTrue k.alike → (n : ℕ) → k.sequence ≡ Some n → (half : Half) → IsCopyOf k.file.store.identity n (content_of_tables k.tables) (file_of half c d)
  pub unlike : k.alike ≡ false → (n : ℕ) → k.sequence ≡ Some n → IsCopyOf k.file.store.identity n (content_of_tables k.tables) (file_of (other k.home) c d) → ⊥
