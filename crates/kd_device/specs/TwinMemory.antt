-- A twin in memory that fails the calls that it is told to fail, as contracts see it.
use Rattle.std.specs.Prelude.{◌≡◌, ℕ, Bool, true, List, [], ◌∷◌, length}
use Rattle.kd_device.specs.Count.{raised}
use Rattle.kd_device.specs.declared.kind.CallKind.{CallKind}
use Rattle.kd_device.specs.declared.kind.CallKind.TheVariants.{Emit}
use Rattle.kd_device.specs.declared.half.Half.{Half}
use Rattle.kd_device.specs.declared.half.Half.TheVariants.{First, Second}
use Rattle.kd_device.specs.declared.tally.Tally.{Tally}
use Rattle.kd_device.specs.Twin.{Both, other}
use Rattle.kd_device.specs.Twin as twin
use Rattle.kd_device.specs.Tally.{none, number_of, after_call, FailsNext, EmitFailsNext}
use Rattle.kd_device.specs.History.{put_by}
use Rattle.kd_device.specs.Recording.{Recording, blank, moment_of, disk_of, names_of, left_by}
use Rattle.kd_device.specs.Memory.{OfBoth}

pub record TwinMemory : Type 0 where
  pub recording : Recording
  pub failing : List (Half × CallKind × ℕ)  -- the calls that fail
  pub first : Tally
  pub second : Tally
  pub line : Tally

-- no call was made
abbrev pub unused : List ℕ → List ℕ → List (Half × CallKind × ℕ) → TwinMemory
unused first second failing = record { recording = blank (first ∷ second ∷ []); failing = failing; first = none; second = none; line = none }

-- what is seen of a disk, with this count of faults
abbrev pub seen_disk : ℕ → ℕ → Recording → twin.Disk
seen_disk i faults r = record { holds = (disk_of i r).bytes; put = put_by i r.events; names = names_of i r.names; disk_faults = faults }

-- what is seen of both, with these counts of faults of the first half, of the second and of the line
abbrev pub seen_both : ℕ → ℕ → ℕ → Recording → Both
seen_both first_faults second_faults line_faults r =
    record {
      told = true;
      first = seen_disk 0 first_faults r;
      second = seen_disk 1 second_faults r;
      sent = (moment_of r).sent;
      line_faults = line_faults;
      moment = length r.events;
      spare_calls = r.spare_calls;
      spare_bytes = r.spare_bytes;
      spare_end = r.spare_end;
    }

abbrev pub both_of : TwinMemory → Both
both_of m = seen_both m.first.faults m.second.faults m.line.faults m.recording

abbrev pub both_left : TwinMemory → ℕ → List ℕ → List ℕ → List ℕ → Type 0
both_left m t c d out = left_by (OfBoth c d) m.recording t out

abbrev pub tally_of : Half → TwinMemory → Tally
tally_of First m = m.first
tally_of Second m = m.second

-- the next call of this kind on this half fails
abbrev pub Fails : Half → CallKind → TwinMemory → Type 0
Fails half kind m = FailsNext m.failing half kind (tally_of half m)

-- the next emit fails
abbrev pub EmitFails : TwinMemory → Type 0
EmitFails m = EmitFailsNext m.failing m.line

-- it is no twin that is borrowed
abbrev pub place_of : TwinMemory → ℕ
place_of m = 0

-- a call of this kind on this half was counted, and the same calls fail
pub record Counts (half : Half) (kind : CallKind) (old new : TwinMemory) : Type 0 where
  pub number : number_of kind (tally_of half new) ≡ raised (number_of kind (tally_of half old))
  pub its : tally_of (other half) new ≡ tally_of (other half) old
  pub line : new.line ≡ old.line
  pub failing : new.failing ≡ old.failing

-- an emit was counted, and the same calls fail
pub record CountsEmit (old new : TwinMemory) : Type 0 where
  pub number : new.line.emit ≡ raised old.line.emit
  pub first : new.first ≡ old.first
  pub second : new.second ≡ old.second
  pub failing : new.failing ≡ old.failing

-- no call was counted, and the same calls fail
pub record SameCalls (old new : TwinMemory) : Type 0 where
  pub first : new.first ≡ old.first
  pub second : new.second ≡ old.second
  pub line : new.line ≡ old.line
  pub failing : new.failing ≡ old.failing

-- a call of this kind on this half was counted, and maybe a fault
abbrev pub counted : Half → CallKind → Bool → TwinMemory → TwinMemory
counted First kind fails m = record m { first = after_call kind fails m.first }
counted Second kind fails m = record m { second = after_call kind fails m.second }

-- an emit was counted, and maybe a fault
abbrev pub emit_counted : Bool → TwinMemory → TwinMemory
emit_counted fails m = record m { line = after_call Emit fails m.line }
