-- What two files are: a KDCFILE by itself, or two copies of one.
use Rattle.std.specs.Prelude.{◌≡◌, ℕ, List, Option, Some, None}
use Rattle.kd_records.specs.Identity.{Identity}
use Rattle.kdcs_types.specs.Tables.{TableRows}
use Rattle.kdcfile_copies.specs.Copies.{IsNoCopy}
use Rattle.device_acts.specs.Stands.{StandsForNoTables, StandsForTables}
use Rattle.kdcfile_double.specs.Opening.{IsChosenTables}

-- what files were made with, the tables that they keep, and where they are two copies, the sequence of the one that counts
pub record Files : Type 0 where
  pub identity : Identity
  pub tables : TableRows
  pub sequence : Option ℕ

-- the first file by itself, with no copy beside it; or two copies of which one counts, and the first file is no KDCFILE by itself
abbrev pub AreFilesBy : Identity → TableRows → Option ℕ → (a b : List ℕ) → Type 0
AreFilesBy i t None a b = StandsForTables i t a × IsNoCopy b
AreFilesBy i t (Some n) a b = IsChosenTables i n t a b × StandsForNoTables a

abbrev pub AreFiles : Files → (a b : List ℕ) → Type 0
AreFiles f a b = AreFilesBy f.identity f.tables f.sequence a b

-- they are those of no application
abbrev pub AreNone : (a b : List ℕ) → Type 0
AreNone a b = (f : Files) → AreFiles f a b → ⊥

-- the first file is a KDCFILE by itself, and the second one a copy: each could be the one that is meant
pub record HaveTwoMeanings (a b : List ℕ) : Type 0 where
  pub by_itself : StandsForNoTables a → ⊥
  pub copy : IsNoCopy b → ⊥

-- two files are those of one application at most
abbrev pub OneMeaningOfFiles : Type 0
OneMeaningOfFiles = (f h : Files) (a b : List ℕ) → AreFiles f a b → AreFiles h a b → f ≡ h

-- files with two meanings are those of none
abbrev pub TwoMeaningsAreNone : Type 0
TwoMeaningsAreNone = (a b : List ℕ) → HaveTwoMeanings a b → AreNone a b
