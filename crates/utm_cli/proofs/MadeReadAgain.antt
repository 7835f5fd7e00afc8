-- The tables that a file stands for are those that are read from it; and a device that never fails.
use Rattle.std.proofs.Common.{◌≡◌, ℕ, List, refl, sym, ◌∙◌, arith, Result, Err}
use Rattle.std.specs.Prelude.{IsErrOf}
use Rattle.kd_device.specs.Device.{Rose}
use Rattle.kd_records.specs.Identity.{Identity}
use Rattle.kd_records.specs.declared.content.Content.{Content}
use Rattle.kdcs_types.specs.Tables.{TableRows}
use Rattle.kdcfile_load.specs.declared.fault.LoadError.{LoadError}
use Rattle.kdcfile_load.specs.declared.fault.LoadError.TheVariants as load
use Rattle.kdcfile_layout.specs.Layout.{IsNoImage}
use Rattle.kdcfile_layout.specs.ReadFilesLaws.{one_meaning}
use Rattle.kdcfile_store.specs.Paged.{Paged, HasFile}
use Rattle.record_codec.specs.Records.{content_of_tables, AreTablesOf}
use Rattle.record_codec.specs.TableReadings.{AreProperTables}
use Rattle.device_acts.specs.MeaningLaws.{one_table}
use Rattle.device_acts.specs.Stands.{StandsForTables}

pub never_rose : Rose 0 0 → ⊥
never_rose rose = absurd (omega (arith, rose))

pub no_image : (bytes : List ℕ) → ((i : Identity) × (t : TableRows) × StandsForTables i t bytes) → IsNoImage bytes → ⊥
no_image bytes stands none = none stands.0 (content_of_tables stands.1) stands.2.content

pub only_memory : {T : Type 0} (r : Result T LoadError) (e : LoadError) → r ≡ Err e → (IsErrOf r load.NotKdcfile → ⊥) → (IsErrOf r load.Failed → ⊥) → e ≡ load.Memory
only_memory r load.NotKdcfile is no_kdcfile failed = absurd (no_kdcfile is)
only_memory r load.Failed is no_kdcfile failed = absurd (failed is)
only_memory r load.Memory is no_kdcfile failed = refl

module _ (s : Paged) (bytes : List ℕ) (file : HasFile s bytes) (x : Content) (kept : x ≡ s.content) (i : Identity) (t : TableRows) (stands : StandsForTables i t bytes) where
  content_is : x ≡ content_of_tables t
  content_is = kept ∙ (one_meaning s.identity i s.content (content_of_tables t) bytes (s.second, s.layout, file) stands.content).1

  pub are_read : AreTablesOf x t
  are_read = record { sorted = stands.tables.sorted; records = content_is }

  pub same_tables : (u : TableRows) → AreTablesOf x u → AreProperTables u → u ≡ t
  same_tables u are proper = one_table u t (record { sorted = are.sorted; proper = proper }) stands.tables (sym are.records ∙ content_is)
