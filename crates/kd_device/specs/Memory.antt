-- A device and a twin in memory, which fail the calls that they are told to fail, as contracts see them.
use Rattle.std.specs.Prelude.{◌≡◌, ℕ, Bool, List, [], ◌∷◌}
use Rattle.kd_device.specs.Count.{raised}
use Rattle.kd_device.specs.declared.kind.CallKind.{CallKind}
use Rattle.kd_device.specs.declared.kind.CallKind.TheVariants.{Emit}
use Rattle.kd_device.specs.declared.half.Half.{Half}
use Rattle.kd_device.specs.declared.half.Half.TheVariants.{First}
use Rattle.kd_device.specs.declared.tally.Tally.{Tally}
use Rattle.kd_device.specs.Device.{State}
use Rattle.kd_device.specs.Tally.{none, number_of, after_call, FailsNext, EmitFailsNext}
use Rattle.kd_device.specs.History.{Disk, StopLeaves}
use Rattle.kd_device.specs.Recording.{Recording, blank, seen, left_by}

-- the image of the one disk
abbrev pub OfOne : List ℕ → (ℕ → Disk) → Type 0
OfOne c disk = StopLeaves (disk 0) c

-- the images of two disks
abbrev pub OfBoth : List ℕ → List ℕ → (ℕ → Disk) → Type 0
OfBoth c d disk = StopLeaves (disk 0) c × StopLeaves (disk 1) d

pub record Memory : Type 0 where
  pub recording : Recording
  pub failing : List (Half × CallKind × ℕ)  -- the calls that fail
  pub disk : Tally
  pub line : Tally

-- no call was made
abbrev pub unused : List ℕ → List (Half × CallKind × ℕ) → Memory
unused start failing = record { recording = blank (start ∷ []); failing = failing; disk = none; line = none }

abbrev pub state_of : Memory → State
state_of m = seen 0 m.disk.faults m.line.faults m.recording

abbrev pub leaves_of : Memory → ℕ → List ℕ → List ℕ → Type 0
leaves_of m t c out = left_by (OfOne c) m.recording t out

-- the next call of this kind on the disk fails
abbrev pub Fails : CallKind → Memory → Type 0
Fails kind m = FailsNext m.failing First kind m.disk

-- the next emit fails
abbrev pub EmitFails : Memory → Type 0
EmitFails m = EmitFailsNext m.failing m.line

-- a call of this kind on the disk was counted, and the same calls fail
pub record Counts (kind : CallKind) (old new : Memory) : Type 0 where
  pub number : number_of kind new.disk ≡ raised (number_of kind old.disk)
  pub line : new.line ≡ old.line
  pub failing : new.failing ≡ old.failing

-- an emit was counted, and the same calls fail
pub record CountsEmit (old new : Memory) : Type 0 where
  pub number : new.line.emit ≡ raised old.line.emit
  pub disk : new.disk ≡ old.disk
  pub failing : new.failing ≡ old.failing

-- no call was counted, and the same calls fail
pub record SameCalls (old new : Memory) : Type 0 where
  pub disk : new.disk ≡ old.disk
  pub line : new.line ≡ old.line
  pub failing : new.failing ≡ old.failing

-- a call of this kind on the disk was counted, and maybe a fault
abbrev pub counted : CallKind → Bool → Memory → Memory
counted kind fails m = record m { disk = after_call kind fails m.disk }

-- an emit was counted, and maybe a fault
abbrev pub emit_counted : Bool → Memory → Memory
emit_counted fails m = record m { line = after_call Emit fails m.line }
