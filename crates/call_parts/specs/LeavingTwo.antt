-- What a call leaves of its two files and its line, whatever it asks for.
use Rattle.std.specs.Prelude.{◌≡◌, ◌⊎◌, ◌≤◌, ℕ, List, [], ◌∷◌, ◌++◌, take, codes}
use Rattle.kd_device.specs.Device.{Rose}
use Rattle.kd_device.specs.Twin.{Both, disk_of}
use Rattle.kd_device.specs.declared.half.Half.{Half}
use Rattle.kd_device.specs.declared.half.Half.TheVariants.{First, Second}
use Rattle.kd_records.specs.Identity.{Identity}
use Rattle.kd_records.specs.declared.content.Content.{Content}
use Rattle.kdcfile_copies.specs.Copies.{AtMost, Below, IsCopyOf, IsNoCopy}
use Rattle.kdcfile_double.specs.Opening.{AreEmpty, SameFiles}
use Rattle.kdcfile_double.specs.Twice.{RoseAt, SameFaultsAt}
use Rattle.call_parts.specs.Words.{file_name}

-- at the call the half was no copy or had the lesser sequence, and the other half was a copy; of two copies of one sequence that differ the second counts as the lesser
abbrev pub WasBehind : Half → Both → Type 0
WasBehind First a = (i : Identity) × (n : ℕ) × (x : Content) × IsCopyOf i n x a.second.holds × Below n a.first.holds
WasBehind Second a = (i : Identity) × (n : ℕ) × (x : Content) × IsCopyOf i n x a.first.holds × AtMost n a.second.holds × (IsCopyOf i n x a.second.holds → ⊥)

-- both files were empty at the call, nothing was sent, and neither is a copy yet
pub record LeavesUnmadeTwo (a : Both) (c d out : List ℕ) : Type 0 where
  pub empty : AreEmpty a.first.holds a.second.holds
  pub silent : out ≡ a.sent
  pub first_none : IsNoCopy c
  pub second_none : IsNoCopy d

-- both files are as they were, and these bytes were sent
pub record SaidTwo (bytes : List ℕ) (a b : Both) : Type 0 where
  pub files : SameFiles a b
  pub sent : b.sent ≡ a.sent ++ bytes

-- a front of this line was sent, and nothing else
pub record SaysPartTwo (line : List ℕ) (a b : Both) : Type 0 where
  pub files : SameFiles a b
  pub front : (n : ℕ) × (b.sent ≡ a.sent ++ take n line)

-- a call of the line failed, or of both halves, or of one half before a byte was sent
abbrev pub FailsTwo : (a b : Both) → Type 0
FailsTwo a b =
    Rose a.line_faults b.line_faults ⊎ (RoseAt First a b × RoseAt Second a b) ⊎ ((RoseAt First a b ⊎ RoseAt Second a b) × (b.sent ≡ a.sent))

-- some call failed
abbrev pub FaultsTwo : (a b : Both) → Type 0
FaultsTwo a b = Rose a.line_faults b.line_faults ⊎ RoseAt First a b ⊎ RoseAt Second a b

-- what calls failed is no fault of the whole: on some half none did, and none of the line, unless one on a half did
pub record FineTwo (a b : Both) : Type 0 where
  pub spared : (half : Half) × SameFaultsAt half a b
  pub line : (b.line_faults ≡ a.line_faults) ⊎ ((half : Half) × RoseAt half a b)

-- what no call changes or lowers
pub record FrameTwin (a b : Both) : Type 0 where
  pub told : b.told ≡ a.told
  pub first_faults : a.first.disk_faults ≤ b.first.disk_faults
  pub second_faults : a.second.disk_faults ≤ b.second.disk_faults
  pub line_faults : a.line_faults ≤ b.line_faults
  pub moment : a.moment ≤ b.moment

-- the name of the second half's file
abbrev pub second_name : List ℕ → List ℕ
second_name base = base ++ codes ".KDCB"

abbrev pub name_of : Half → List ℕ → List ℕ
name_of First base = file_name base
name_of Second base = second_name base

-- this half's name, or none, was handed to attach
abbrev pub MayAttachTwo : List ℕ → (a b : Both) → Type 0
MayAttachTwo base a b =
    (half : Half) → ((disk_of half b).names ≡ (disk_of half a).names) ⊎ ((disk_of half b).names ≡ (disk_of half a).names ++ name_of half base ∷ [])

-- each half's name was handed to attach
abbrev pub AttachesBoth : List ℕ → (a b : Both) → Type 0
AttachesBoth base a b = (half : Half) → (disk_of half b).names ≡ (disk_of half a).names ++ name_of half base ∷ []

-- no name was handed to attach
abbrev pub SameNamesTwo : (a b : Both) → Type 0
SameNamesTwo a b = (half : Half) → (disk_of half b).names ≡ (disk_of half a).names
