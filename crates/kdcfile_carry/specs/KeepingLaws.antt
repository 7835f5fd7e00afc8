-- Laws: what two files are while one of them is changed beside the other one.
use Rattle.std.specs.Prelude.{◌≡◌, ◌<◌, ◌^◌, ℕ, Bool, true, false, List, Option, Some, None, IfSome}
use Rattle.std.proofs.Common.{inl, inr, refl, sym, subst}
use Rattle.kd_device.specs.Twin.{Both, other, disk_of}
use Rattle.kd_device.specs.declared.half.Half.{Half}
use Rattle.kd_device.specs.declared.half.Half.TheVariants.{First, Second}
use Rattle.kd_records.specs.Identity.{Identity}
use Rattle.kdcs_types.specs.Tables.{TableRows}
use Rattle.record_codec.specs.Records.{content_of_tables}
use Rattle.device_acts.specs.Stands.{AreTables, StandsForNoTables}
use Rattle.kdcfile_layout.specs.Gates.{IsShut}
use Rattle.kdcfile_layout.specs.Layout.{StandsFor}
use Rattle.kdcfile_copies.specs.Beside.{file_of}
use Rattle.kdcfile_copies.specs.Copies.{AtMost, IsCopyOf, IsNoCopy}
use Rattle.kdcfile_copies.specs.Mending.{IsMending}
use Rattle.kdcfile_copies.specs.MendingLaws.{shut_means_nothing}
use Rattle.kdcfile_double.specs.ChosenLaws.{at_most_next, below_at_most, none_is_below, second_chosen}
use Rattle.kdcfile_double.specs.MendLaws.{copied, mending_behind}
use Rattle.carry_steps.specs.Deciding.{next_sequence}
use Rattle.kdcfile_carry.specs.Files.{AreFilesBy}
use Rattle.kdcfile_carry.specs.FilesLaws.{copy_has_no_tables, tables_are_bare}
use Rattle.kdcfile_carry.specs.Keeping.{BesideBy, IsSource, content_by}
use Rattle.kdcfile_carry.specs.LeavingLaws.{HalfHas}

shut_has_no_tables : (c : List ℕ) → IsShut c → StandsForNoTables c
shut_has_no_tables c shut i t stands = shut_means_nothing c shut i (content_of_tables t) stands.content

-- a source is the copy that counts
pub source_files : (half : Half) (i : Identity) (n : ℕ) (t : TableRows) (c d : List ℕ) → IsSource half i n t c d → AreFilesBy i t (Some n) c d
source_files First i n t c d is = (record { tables = is.tables; chosen = inl (is.copy, is.behind) }, is.none)
source_files Second i n t c d is = (record { tables = is.tables; chosen = second_chosen i n (content_of_tables t) c d is.copy is.behind }, is.none)

-- the same where the first file is the copy
first_source : (i : Identity) (n : ℕ) (t : TableRows) (c d : List ℕ) → AreTables t → IsCopyOf i n (content_of_tables t) c → AtMost n d → IsSource First i n t c d
first_source i n t c d tables is most = record { tables = tables; copy = is; behind = most; none = copy_has_no_tables i n t c is }

-- the first file has these tables, by itself or as a copy, and the second one is beside it
pub first_files : (i : Identity) (t : TableRows) (s : Option ℕ) (c d : List ℕ) → AreTables t → IfSome s (λ n. n < 2 ^ 64) → StandsFor i (content_by s (content_of_tables t)) c → BesideBy s d → AreFilesBy i t s c d
first_files i t None c d tables small stands beside = (record { tables = tables; content = stands }, beside)
first_files i t (Some n) c d tables small stands beside = source_files First i n t c d (first_source i n t c d tables (record { content = stands; bare = tables_are_bare t; small = small }) beside)

pub first_is_source : (i : Identity) (t : TableRows) (n : ℕ) (c d : List ℕ) → AreTables t → n < 2 ^ 64 → StandsFor i (content_by (Some n) (content_of_tables t)) c → BesideBy (Some n) d → IsSource First i n t c d
first_is_source i t n c d tables small stands beside = first_source i n t c d tables (record { content = stands; bare = tables_are_bare t; small = small }) beside

-- what is beside the old files may be beside the new ones, if no copy is left beside a file by itself
pub beside_next : (double : Bool) (s : Option ℕ) (d : List ℕ) → BesideBy s d → (double ≡ false → IsNoCopy d) → BesideBy (next_sequence double s) d
beside_next false s d beside none = none refl
beside_next true None d beside none = below_at_most 0 d (none_is_below 0 d beside)
beside_next true (Some n) d beside none = at_most_next n d beside

-- ---- a half that is written anew from the other one

module _ (i : Identity) (n : ℕ) (t : TableRows) where
  first_none : (source : Half) (c d before : List ℕ) → IsCopyOf i n (content_of_tables t) (file_of source c d) → IsMending (file_of source c d) before (file_of (other source) c d) → StandsForNoTables before → StandsForNoTables (file_of (other source) c d)
  first_none source c d before is (inl same) none = subst (λ (l : List ℕ). StandsForNoTables l) (sym same) none
  first_none source c d before is (inr (inl shut)) none = shut_has_no_tables (file_of (other source) c d) shut
  first_none source c d before is (inr (inr begins)) none = copy_has_no_tables i n t (file_of (other source) c d) (copied i n (content_of_tables t) (file_of source c d) (file_of (other source) c d) is begins)

  pub mending_source : (source : Half) (a : Both) (c d : List ℕ) → IsSource source i n t a.first.holds a.second.holds → HalfHas (other source) a (IsMending (disk_of source a).holds (disk_of (other source) a).holds) c d → IsSource source i n t c d
  mending_source First a c d is has =
      let same : c ≡ a.first.holds = has.0 in
      let copy = subst (λ (l : List ℕ). IsCopyOf i n (content_of_tables t) l) (sym same) is.copy in
      record {
        tables = is.tables;
        copy = copy;
        behind = mending_behind i n (content_of_tables t) Second a.first.holds a.second.holds d is.copy is.behind has.1;
        none = copy_has_no_tables i n t c copy;
      }
  mending_source Second a c d is has =
      let same : d ≡ a.second.holds = has.0 in
      let copy = subst (λ (l : List ℕ). IsCopyOf i n (content_of_tables t) l) (sym same) is.copy in
      record {
        tables = is.tables;
        copy = copy;
        behind = mending_behind i n (content_of_tables t) First a.second.holds a.first.holds c is.copy is.behind has.1;
        none = first_none Second c d a.first.holds copy (subst (λ (l : List ℕ). IsMending l a.first.holds c) (sym same) has.1) is.none;
      }
