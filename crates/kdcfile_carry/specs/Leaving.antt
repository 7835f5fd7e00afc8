-- What a stop within the call leaves of two files, and what they are afterwards.
use Rattle.std.specs.Prelude.{◌≡◌, ◌⊎◌, ℕ, List, Option, Some, None}
use Rattle.kd_device.specs.Twin.{Both, disk_of}
use Rattle.kd_device.specs.declared.half.Half.{Half}
use Rattle.kd_records.specs.Identity.{Identity}
use Rattle.kdcs_types.specs.Tables.{TableRows}
use Rattle.record_codec.specs.Records.{content_of_tables}
use Rattle.device_acts.specs.Stands.{StandsForTables}
use Rattle.kdcfile_copies.specs.Beside.{LeavesPairs}
use Rattle.kdcfile_copies.specs.Copies.{IsCopyOf, IsNoCopy}
use Rattle.kdcfile_carry.specs.Files.{AreFiles, Files}

-- from a to b nothing was sent, and two files that a stop leaves, also one now, have P
pub record StaysWithin (P : List ℕ → List ℕ → Type 0) (a b : Both) (la lb : ℕ → List ℕ → List ℕ → List ℕ → Type 0) : Type 0 where
  pub sent : b.sent ≡ a.sent
  pub now : (c d : List ℕ) → lb b.moment c d b.sent → P c d
  pub leaves : LeavesPairs a b la lb (λ c d out. (out ≡ a.sent) × P c d)

-- a stop now leaves these files
abbrev pub LeavesFiles : Files → Both → (ℕ → List ℕ → List ℕ → List ℕ → Type 0) → Type 0
LeavesFiles f b lb = (c d : List ℕ) → lb b.moment c d b.sent → AreFiles f c d

-- each half by itself stands for the tables, but for one that is lost; where there is one file, the second one is no copy
abbrev pub EachStands : Identity → TableRows → (sequence : Option ℕ) → (lost : Option Half) → Both → Type 0
EachStands i t None lost b = StandsForTables i t b.first.holds × IsNoCopy b.second.holds × (lost ≡ None)
EachStands i t (Some n) lost b = (half : Half) → (lost ≡ Some half) ⊎ IsCopyOf i n (content_of_tables t) (disk_of half b).holds
