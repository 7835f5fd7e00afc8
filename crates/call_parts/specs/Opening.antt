-- Which files an errand opens, with which tables, and which it refuses.
use Rattle.std.specs.Prelude.{◌≡◌, ◌⊎◌, ℕ, List}
use Rattle.kd_records.specs.Identity.{Identity}
use Rattle.kd_device.specs.Twin.{Both}
use Rattle.kdcs_types.specs.Tables.{TableRows}
use Rattle.device_acts.specs.Stands.{identity_for}
use Rattle.device_acts.specs.Opening.{StartsFrom, IsRefused, IsOfOtherTexts}
use Rattle.kdcfile_double.specs.Opening.{IsRefusedTwo, IsSpent, IsTwoOfOtherTexts, StartsFromTwo, identity_twice}
use Rattle.refusals.specs.declared.error.FileRefusal.{FileRefusal}
use Rattle.refusals.specs.declared.error.FileRefusal.TheVariants.{NotKdcfile, OtherGeneration, SequenceSpent}
use Rattle.call_parts.specs.Asking.{Errand}

-- what the KDCFILE of an errand is made with
abbrev pub identity_of : Errand → Identity
identity_of e = identity_for e.application.generation e.fingerprint

-- the KDCFILE with these bytes is opened with these tables
abbrev pub Opens : Errand → (bytes : List ℕ) → TableRows → Type 0
Opens e bytes t = StartsFrom e.application.generation e.fingerprint bytes t

-- why bytes are not opened
abbrev pub OpeningRefuses : Errand → (bytes : List ℕ) → FileRefusal → Type 0
OpeningRefuses e bytes why =
    ((why ≡ NotKdcfile) × IsRefused e.application.generation e.fingerprint bytes) ⊎ ((stored : List ℕ) × (why ≡ OtherGeneration stored) × IsOfOtherTexts stored e.fingerprint bytes)

-- what both files of an errand are made with
abbrev pub identity_of_two : Errand → Identity
identity_of_two e = identity_twice e.application.generation e.fingerprint

-- the copy of the two files that counts has these tables, from which the errand goes on; or both are empty
abbrev pub OpensTwo : Errand → Both → TableRows → Type 0
OpensTwo e a t = StartsFromTwo e.application.generation e.fingerprint a.first.holds a.second.holds t

-- why two files are not opened
abbrev pub OpeningRefusesTwo : Errand → Both → FileRefusal → Type 0
OpeningRefusesTwo e a why =
    ((why ≡ NotKdcfile) × IsRefusedTwo e.application.generation e.fingerprint a.first.holds a.second.holds)
    ⊎ ((stored : List ℕ) × (why ≡ OtherGeneration stored) × IsTwoOfOtherTexts stored e.fingerprint a.first.holds a.second.holds)
    ⊎ ((n : ℕ) × (why ≡ SequenceSpent) × IsSpent e.application.generation e.fingerprint n a.first.holds a.second.holds)
