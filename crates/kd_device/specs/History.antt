-- Disks and a line by the calls that were made.
use Rattle.std.specs.Prelude.{◌≡◌, ◌⊎◌, ℕ, zero, suc, ◌+◌, min, Bool, true, false, if◌then◌else◌, nat_eq, List, [], ◌∷◌, ◌++◌, length, take, get_or}
use Rattle.kd_device.specs.Device.{Torn, written}

-- a call with its bytes, and whether it was done; the disks are numbered from 0 on
pub data Event : Type 0 where
  Wrote : (disk at : ℕ) (bytes : List ℕ) (done : Bool) → Event
  Synced : (disk : ℕ) (done : Bool) → Event
  Emitted : (piece : List ℕ) (done : Bool) → Event

-- what reads give, what stood there after the last sync, and the ranges written since
pub record Disk : Type 0 where
  pub bytes : List ℕ
  pub base : List ℕ
  pub pending : List (ℕ × ℕ)

-- the disks, and what was sent
pub record Moment : Type 0 where
  pub disk : ℕ → Disk
  pub sent : List ℕ

abbrev pub fresh : List ℕ → Disk
fresh start = record { bytes = start; base = start; pending = [] }

-- these files, all of them on the disks, and nothing sent
abbrev pub at_first : List (List ℕ) → Moment
at_first starts = record { disk = λ i. fresh (get_or starts i []); sent = [] }

abbrev pub is_on : ℕ → Event → Bool
is_on i (Wrote disk at bytes done) = nat_eq i disk
is_on i (Synced disk done) = nat_eq i disk
is_on i (Emitted piece done) = false

-- what a call does to its disk
abbrev pub moved : Event → Disk → Disk
moved (Wrote disk at bytes done) d =
    record { bytes = if done then written d.bytes at bytes else d.bytes; base = d.base; pending = d.pending ++ (min at (length d.bytes), at + length bytes) ∷ [] }
moved (Synced disk done) d = record { bytes = d.bytes; base = if done then d.bytes else d.base; pending = if done then [] else d.pending }
moved (Emitted piece done) d = d

-- what it does to the disk of this number
abbrev pub step_on : ℕ → Event → Disk → Disk
step_on i e d = if is_on i e then moved e d else d

-- what it does to the line
abbrev pub sent_by : Event → List ℕ → List ℕ
sent_by (Wrote disk at bytes done) sent = sent
sent_by (Synced disk done) sent = sent
sent_by (Emitted piece done) sent = if done then sent ++ piece else sent

abbrev pub step : Moment → Event → Moment
step s e = record { disk = λ i. step_on i e (s.disk i); sent = sent_by e s.sent }

abbrev pub after : Moment → List Event → Moment
after s [] = s
after s (e ∷ es) = after (step s e) es

-- each range torn, one after another
abbrev pub Torns : List (ℕ × ℕ) → List ℕ → List ℕ → Type 0
Torns [] old new = new ≡ old
Torns (r ∷ rs) old new = (mid : List ℕ) × Torn r.0 r.1 old mid × Torns rs mid new

-- a stop leaves this of a disk
abbrev pub StopLeaves : Disk → List ℕ → Type 0
StopLeaves d c = Torns d.pending d.base c

-- a stop between two calls leaves what has P of the disks
abbrev pub AtRest : ((ℕ → Disk) → Type 0) → Moment → List ℕ → Type 0
AtRest P s out = P s.disk × (out ≡ s.sent)

-- so does a stop within a call, beside what it leaves before and after it
abbrev pub Within : ((ℕ → Disk) → Type 0) → Moment → Event → List ℕ → Type 0
Within P s (Wrote disk at bytes done) out = ⊥
Within P s (Synced disk done) out = ⊥
Within P s (Emitted piece done) out = P s.disk × ((n : ℕ) × (out ≡ s.sent ++ take n piece))

-- so does a stop at some moment of these calls
abbrev pub Left : ((ℕ → Disk) → Type 0) → Moment → List Event → List ℕ → Type 0
Left P s [] out = AtRest P s out
Left P s (e ∷ es) out = AtRest P s out ⊎ (Within P s e out ⊎ Left P (step s e) es out)

-- the same, of the calls from the t-th on
abbrev pub Since : ((ℕ → Disk) → Type 0) → ℕ → Moment → List Event → List ℕ → Type 0
Since P zero s es out = Left P s es out
Since P (suc t) s [] out = ⊥
Since P (suc t) s (e ∷ es) out = Since P t (step s e) es out

abbrev pub IsDone : Event → Type 0
IsDone (Wrote disk at bytes done) = done ≡ true
IsDone (Synced disk done) = Unit {0}
IsDone (Emitted piece done) = Unit {0}

-- no write failed
abbrev pub AllDone : List Event → Type 0
AllDone [] = Unit {0}
AllDone (e ∷ es) = IsDone e × AllDone es

-- the bytes that were handed to write_at of a disk by one call, and by all
abbrev pub put_once : ℕ → Event → ℕ
put_once i (Wrote disk at bytes done) = if nat_eq i disk then length bytes else 0
put_once i (Synced disk done) = 0
put_once i (Emitted piece done) = 0

abbrev pub put_by : ℕ → List Event → ℕ
put_by i [] = 0
put_by i (e ∷ es) = put_once i e + put_by i es
