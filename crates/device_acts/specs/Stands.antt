-- Which tables the bytes of a KDCFILE stand for.
use Rattle.std.specs.Prelude.{◌≡◌, List, ℕ}
use Rattle.kd_records.specs.Identity.{Identity}
use Rattle.application_types.specs.Generation.{Generated}
use Rattle.kdcs_types.specs.Tables.{TableRows, IsSortedTables}
use Rattle.kdcfile_layout.specs.Layout.{StandsFor}
use Rattle.kdcfile_store.specs.declared.store.StoreLimits.{StoreLimits}
use Rattle.kdcfile_store.specs.Paged.{Paged, identity_with}
use Rattle.record_codec.specs.Records.{content_of_tables}
use Rattle.record_codec.specs.TableReadings.{AreProperTables}

-- BLKSIZE and PGPOOL of a generation
abbrev pub limits_of : Generated → StoreLimits
limits_of g = record { blksize = g.limits.blksize; pgpool = g.limits.pgpool }

-- what the KDCFILE of a generation is made with, from texts with this fingerprint
abbrev pub identity_for : Generated → (fingerprint : List ℕ) → Identity
identity_for g fingerprint = identity_with (limits_of g) fingerprint

-- tables that there can be: in order, and their names are names and their numbers have their bytes
pub record AreTables (t : TableRows) : Type 0 where
  pub sorted : IsSortedTables t
  pub proper : AreProperTables t

-- the bytes are a KDCFILE that was made with this, and its records are the rows of these tables
pub record StandsForTables (i : Identity) (t : TableRows) (bytes : List ℕ) : Type 0 where
  pub tables : AreTables t
  pub content : StandsFor i (content_of_tables t) bytes

-- the bytes stand for no tables
abbrev pub StandsForNoTables : List ℕ → Type 0
StandsForNoTables bytes = (i : Identity) (t : TableRows) → StandsForTables i t bytes → ⊥

-- the store keeps these tables, in a file that was made with this
pub record KeepsTables (i : Identity) (store : Paged) (t : TableRows) : Type 0 where
  pub identity_is : store.identity ≡ i
  pub tables : AreTables t
  pub content : store.content ≡ content_of_tables t

-- given bytes stand for one list of tables at most, and were made with one identity
abbrev pub OneMeaningOfTables : Type 0
OneMeaningOfTables = (i j : Identity) (t u : TableRows) (bytes : List ℕ) → StandsForTables i t bytes → StandsForTables j u bytes → (i ≡ j) × (t ≡ u)
