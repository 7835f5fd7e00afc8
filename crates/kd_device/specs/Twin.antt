-- What a twin is seen as: two disks and one line, under one clock.
use Rattle.std.specs.Prelude.{ℕ, Bool, false, List, []}
use Rattle.kd_device.specs.Device.{State}
use Rattle.kd_device.specs.declared.half.Half.{Half}
use Rattle.kd_device.specs.declared.half.Half.TheVariants.{First, Second}

pub record Disk : Type 0 where
  pub holds : List ℕ  -- what reads give
  pub put : ℕ  -- the number of bytes handed to write_at
  pub names : List (List ℕ)  -- the names handed to attach
  pub disk_faults : ℕ

-- a twin at one moment, but for what a stop may leave
pub record Both : Type 0 where
  pub told : Bool  -- whether the bytes below are told
  pub first : Disk
  pub second : Disk
  pub sent : List ℕ  -- all that was emitted
  pub line_faults : ℕ
  pub moment : ℕ  -- one clock over both disks and the line
  pub spare_calls : ℕ  -- so many attaches, writes, syncs and emits take no memory,
  pub spare_bytes : ℕ  -- of so many bytes together,
  pub spare_end : ℕ  -- with no write past here

abbrev pub other : Half → Half
other First = Second
other Second = First

abbrev pub disk_of : Half → Both → Disk
disk_of First b = b.first
disk_of Second b = b.second

-- which disk of a memory it is
abbrev pub disk_number : Half → ℕ
disk_number First = 0
disk_number Second = 1

-- a half with the line, as a device
abbrev pub half_state : Half → Both → State
half_state half b =
    record {
      told = b.told;
      holds = (disk_of half b).holds;
      sent = b.sent;
      put = (disk_of half b).put;
      names = (disk_of half b).names;
      disk_faults = (disk_of half b).disk_faults;
      line_faults = b.line_faults;
      moment = b.moment;
      spare_calls = b.spare_calls;
      spare_bytes = b.spare_bytes;
      spare_end = b.spare_end;
    }

-- what may be left of a half where this is left of the other one
abbrev pub slice : Half → List ℕ → (ℕ → List ℕ → List ℕ → List ℕ → Type 0) → ℕ → List ℕ → List ℕ → Type 0
slice First d leaves t c out = leaves t c d out
slice Second d leaves t c out = leaves t d c out

-- what may be left of a half, whatever is left of the other one
abbrev pub half_leaves : Half → (ℕ → List ℕ → List ℕ → List ℕ → Type 0) → ℕ → List ℕ → List ℕ → Type 0
half_leaves half leaves t c out = (d : List ℕ) × slice half d leaves t c out

abbrev pub no_disk : Disk
no_disk = record { holds = []; put = 0; names = []; disk_faults = 0 }

-- a twin that tells nothing
abbrev pub untold : Both
untold =
    record { told = false; first = no_disk; second = no_disk; sent = []; line_faults = 0; moment = 0; spare_calls = 0; spare_bytes = 0; spare_end = 0 }
