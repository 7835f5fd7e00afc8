-- What a call promises that does nothing but send the line of a refusal.
use Rattle.std.specs.Prelude.{◌≡◌, ℕ, IsTrue, List, [], ◌∷◌}
use Rattle.kd_device.specs.Device.{State, Rose, Frame, SameFaults, SameNames}
use Rattle.kd_device.specs.Twin.{Both, disk_of, half_state}
use Rattle.kd_device.specs.declared.half.Half.{Half}
use Rattle.kd_device.specs.declared.half.Half.TheVariants.{Second}
use Rattle.device_acts.specs.Said.{Said, SaidPart}
use Rattle.refusals.specs.Lines.{file_line, refusal_line}
use Rattle.refusals.specs.Statuses.{IsOneOf, status_of, status_of_file}
use Rattle.call_parts.specs.LeavingTwo.{FrameTwin, SaidTwo, SameNamesTwo, SaysPartTwo}
use Rattle.call_parts.specs.Missing.{missing_line}
use Rattle.call_parts.specs.Words.{live_usage_line, usage_line}
use Rattle.call_parts.specs.declared.refusing.Cause.{Cause}
use Rattle.call_parts.specs.declared.refusing.Cause.TheVariants.{Words, OneBase, Texts, Missing, Files}

-- a call over a device that sends this line and answers this status ended so: it did, or the line failed, or memory ran out; nothing else was done
pub record SendsRefusal (status : ℕ) (line : List ℕ) (a b : State) (ended : ℕ) : Type 0 where
  pub code : IsOneOf (status ∷ 5 ∷ 7 ∷ []) ended
  pub said : ended ≡ status → IsTrue a.told → Said line a b
  pub part : IsTrue a.told → SaidPart line a b
  pub failed : ended ≡ 5 → Rose a.line_faults b.line_faults
  pub fine : (ended ≡ 5 → ⊥) → SameFaults a b
  pub frame : Frame a b
  pub names : SameNames a b

-- the same beside the files of a twin
pub record SendsRefusalTwo (status : ℕ) (line : List ℕ) (a b : Both) (ended : ℕ) : Type 0 where
  pub code : IsOneOf (status ∷ 5 ∷ 7 ∷ []) ended
  pub said : ended ≡ status → IsTrue a.told → SaidTwo line a b
  pub part : IsTrue a.told → SaysPartTwo line a b
  pub failed : ended ≡ 5 → Rose a.line_faults b.line_faults
  pub fine : (ended ≡ 5 → ⊥) → (half : Half) → SameFaults (half_state half a) (half_state half b)
  pub frame : FrameTwin a b
  pub names : SameNamesTwo a b
  pub second : disk_of Second b ≡ disk_of Second a

-- the line of a refusal
abbrev pub line_for : Cause → List ℕ
line_for Words = usage_line
line_for OneBase = live_usage_line
line_for (Texts why) = refusal_line why
line_for (Missing half) = missing_line half
line_for (Files why) = file_line why

-- its status
abbrev pub status_for : Cause → ℕ
status_for Words = 1
status_for OneBase = 1
status_for (Texts why) = status_of why
status_for (Missing half) = 4
status_for (Files why) = status_of_file why
