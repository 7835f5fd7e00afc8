-- Which file of two is missing: it is empty or not there, beside a copy with commits.
use Rattle.std.specs.Prelude.{◌≡◌, ℕ, Bool, true, List, [], codes}
use Rattle.kd_device.specs.Twin.{Both, other}
use Rattle.kd_device.specs.declared.half.Half.{Half}
use Rattle.kd_device.specs.declared.half.Half.TheVariants.{First, Second}
use Rattle.kd_records.specs.Identity.{Identity}
use Rattle.kd_records.specs.declared.content.Content.{Content}
use Rattle.kdcfile_copies.specs.Beside.{file_of}
use Rattle.kdcfile_copies.specs.Copies.{IsCopyOf}

-- a copy that a commit has changed since it was made
abbrev pub HasCommits : List ℕ → Type 0
HasCommits bytes = (i : Identity) × (n : ℕ) × (x : Content) × IsCopyOf i n x bytes × (n ≡ 0 → ⊥)

-- the file of this half is empty, and the other one has a copy with commits; beside one without any it is one that was not made yet
pub record IsMissing (half : Half) (p q : List ℕ) : Type 0 where
  pub empty : file_of half p q ≡ []
  pub copy : HasCommits (file_of (other half) p q)

-- no file is missing, unless a copy is taken alone
abbrev pub NoneMissingUnless : (alone : Bool) → (p q : List ℕ) → Type 0
NoneMissingUnless alone p q = (half : Half) → IsMissing half p q → alone ≡ true

abbrev pub MayOpen : (alone : Bool) → Both → Type 0
MayOpen alone a = NoneMissingUnless alone a.first.holds a.second.holds

-- the line that says which, with status 4
abbrev pub missing_line : Half → List ℕ
missing_line First = codes "KDCFILE COPY A IS MISSING\n"
missing_line Second = codes "KDCFILE COPY B IS MISSING\n"
