-- What a device is seen as, and what its calls do to it.
use Rattle.std.specs.Prelude.{◌≡◌, ◌⊎◌, ◌≤◌, ℕ, ◌+◌, ◌-◌, ◌^◌, min, max, Bool, List, ◌++◌, length, take, drop, replicate, Result, OnOk}

-- a device at one moment, but for what a stop may leave
pub record State : Type 0 where
  pub told : Bool  -- whether the bytes below are told
  pub holds : List ℕ  -- what reads give
  pub sent : List ℕ  -- all that was emitted
  pub put : ℕ  -- the number of bytes handed to write_at
  pub names : List (List ℕ)  -- the names handed to attach
  pub disk_faults : ℕ
  pub line_faults : ℕ
  pub moment : ℕ  -- one clock over disk and line
  pub spare_calls : ℕ  -- so many writes, syncs and emits take no memory,
  pub spare_bytes : ℕ  -- of so many bytes together,
  pub spare_end : ℕ  -- with no write past here

-- a count is greater than before, or is at its type's end
abbrev pub Rose : ℕ → ℕ → Type 0
Rose before now = min (before + 1) (2 ^ 64 - 1) ≤ now

-- old with these bytes at this place, and zero bytes in a gap
abbrev pub written : List ℕ → ℕ → List ℕ → List ℕ
written old at bytes = take at (old ++ replicate (at - length old) 0) ++ (bytes ++ drop (at + length bytes) old)

-- a write to the range that a stop cuts short: any bytes there and past the old end, the same elsewhere
pub record Torn (from upto : ℕ) (old new : List ℕ) : Type 0 where
  pub before : take from new ≡ take from old
  pub after : drop upto new ≡ drop upto old
  pub no_shorter : length old ≤ length new
  pub no_longer : length new ≤ max (length old) upto

-- from old to new, a stop leaves what it might have left at old, or an image and sent bytes that have P
pub record LeavesOnly (old new : State) (past since : ℕ → List ℕ → List ℕ → Type 0) (P : List ℕ → List ℕ → Type 0) : Type 0 where
  pub later : old.moment ≤ new.moment
  pub only : (t : ℕ) (c out : List ℕ) → t ≤ old.moment → since t c out → past t c out ⊎ P c out

-- what a stop now leaves
abbrev pub Now : State → (ℕ → List ℕ → List ℕ → Type 0) → List ℕ → List ℕ → Type 0
Now s leaves c out = (out ≡ s.sent) × leaves s.moment c s.sent

-- what might have been left is not forgotten
abbrev pub Remembers : State → (ℕ → List ℕ → List ℕ → Type 0) → (ℕ → List ℕ → List ℕ → Type 0) → Type 0
Remembers old past since = (t : ℕ) (c out : List ℕ) → t ≤ old.moment → past t c out → since t c out

-- what no call changes or lowers
pub record Frame (old new : State) : Type 0 where
  pub told : new.told ≡ old.told
  pub disk_faults : old.disk_faults ≤ new.disk_faults
  pub line_faults : old.line_faults ≤ new.line_faults
  pub moment : old.moment ≤ new.moment

-- no further call of the disk failed
abbrev pub SameDiskFaults : State → State → Type 0
SameDiskFaults old new = new.disk_faults ≡ old.disk_faults

-- no further emit failed
abbrev pub SameLineFaults : State → State → Type 0
SameLineFaults old new = new.line_faults ≡ old.line_faults

-- no further call failed
pub record SameFaults (old new : State) : Type 0 where
  pub disk : SameDiskFaults old new
  pub line : SameLineFaults old new

-- no further name was handed to attach
abbrev pub SameNames : State → State → Type 0
SameNames old new = new.names ≡ old.names

pub record SameSpare (old new : State) : Type 0 where
  pub calls : new.spare_calls ≡ old.spare_calls
  pub bytes : new.spare_bytes ≡ old.spare_bytes
  pub end : new.spare_end ≡ old.spare_end

-- one call of n bytes
pub record UsesSpare (n : ℕ) (old new : State) : Type 0 where
  pub calls : new.spare_calls + 1 ≡ old.spare_calls
  pub bytes : new.spare_bytes + n ≡ old.spare_bytes
  pub end : new.spare_end ≡ old.spare_end

pub record HasSpare (n : ℕ) (s : State) : Type 0 where
  pub calls : 1 ≤ s.spare_calls
  pub bytes : n ≤ s.spare_bytes

pub record Reserved (k n upto : ℕ) (s : State) : Type 0 where
  pub calls : k ≤ s.spare_calls
  pub bytes : n ≤ s.spare_bytes
  pub end : upto ≤ s.spare_end

-- a call that changes no byte, and after which a stop leaves what it might have left
pub record Quiet (old new : State) (past since : ℕ → List ℕ → List ℕ → Type 0) : Type 0 where
  pub holds : new.holds ≡ old.holds
  pub sent : new.sent ≡ old.sent
  pub put : new.put ≡ old.put
  pub stop : (c : List ℕ) → since new.moment c new.sent → past old.moment c old.sent
  pub time : LeavesOnly old new past since (Now new since)
  pub keeps : Remembers old past since

pub record Writes {E : Type 0} (at : ℕ) (bytes : List ℕ) (old new : State) (past since : ℕ → List ℕ → List ℕ → Type 0) (result : Result Unit E) : Type 0 where
  pub holds : OnOk result (new.holds ≡ written old.holds at bytes)
  pub sent : new.sent ≡ old.sent
  pub put : new.put ≡ old.put + length bytes
  pub stop : (c : List ℕ) → since new.moment c new.sent → (d : List ℕ) × past old.moment d old.sent × Torn (min at (length old.holds)) (at + length bytes) d c
  pub time : LeavesOnly old new past since (Now new since)
  pub keeps : Remembers old past since

-- a stop within an emit: some prefix of the piece is sent
pub record Sending (piece : List ℕ) (old : State) (past : ℕ → List ℕ → List ℕ → Type 0) (c out : List ℕ) : Type 0 where
  pub image : past old.moment c old.sent
  pub prefix : (n : ℕ) × (out ≡ old.sent ++ take n piece)

pub record Emits {E : Type 0} (piece : List ℕ) (old new : State) (past since : ℕ → List ℕ → List ℕ → Type 0) (result : Result Unit E) : Type 0 where
  pub holds : new.holds ≡ old.holds
  pub sent : OnOk result (new.sent ≡ old.sent ++ piece)
  pub part : (n : ℕ) × (new.sent ≡ old.sent ++ take n piece)
  pub put : new.put ≡ old.put
  pub stop : (c : List ℕ) → since new.moment c new.sent → past old.moment c old.sent
  pub time : LeavesOnly old new past since (Sending piece old past)
  pub keeps : Remembers old past since

-- a stop now leaves this file and nothing else
abbrev pub Only : List ℕ → State → (ℕ → List ℕ → List ℕ → Type 0) → Type 0
Only file s leaves = (c : List ℕ) → leaves s.moment c s.sent → c ≡ file
