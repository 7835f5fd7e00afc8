-- What the opening of two files leaves at a stop.
use Rattle.std.specs.Prelude.{◌≡◌, ◌⊎◌, ◌++◌, ◌∷◌, [], ℕ, List}
use Rattle.kd_records.specs.Identity.{Identity}
use Rattle.kd_device.specs.Twin.{Both, disk_of}
use Rattle.kd_device.specs.declared.half.Half.{Half}
use Rattle.kdcs_types.specs.Tables.{TableRows}
use Rattle.kdcfile_double.specs.Opening.{IsChosenTables, SameFiles, Unchanged}
use Rattle.kdcfile_double.specs.Twice.{LeavesBoth}
use Rattle.call_parts.specs.LeavingTwo.{LeavesUnmadeTwo}

-- this name was handed to attach as that of this half
abbrev pub AttachesHalf : Half → List ℕ → (a b : Both) → Type 0
AttachesHalf half name a b = (disk_of half b).names ≡ (disk_of half a).names ++ name ∷ []

-- it was, or none
abbrev pub MayAttachHalf : Half → List ℕ → (a b : Both) → Type 0
MayAttachHalf half name a b = ((disk_of half b).names ≡ (disk_of half a).names) ⊎ AttachesHalf half name a b

-- both files stay as they are, and nothing was sent; a stop leaves of each what one before might have left
pub record StaysAsItIs (a b : Both) (la lb : ℕ → List ℕ → List ℕ → List ℕ → Type 0) : Type 0 where
  pub files : SameFiles a b
  pub sent : b.sent ≡ a.sent
  pub leaves : LeavesBoth a b la lb (Unchanged a la)

-- at each moment since, nothing was sent, and the copy that counts has the tables, or both files were empty and neither is a copy yet
abbrev pub LeavesOpeningTwo : Identity → TableRows → (a b : Both) → (lb : ℕ → List ℕ → List ℕ → List ℕ → Type 0) → Type 0
LeavesOpeningTwo i t a b lb = (c d out : List ℕ) → lb a.moment c d out → (out ≡ a.sent) × (((n : ℕ) × IsChosenTables i n t c d) ⊎ LeavesUnmadeTwo a c d out)
