-- Disk files and an output line in memory, as contracts see them: by the calls that were made.
use Rattle.std.specs.Prelude.{◌≡◌, ◌≤◌, ◌<◌, ℕ, ◌+◌, ◌-◌, ◌^◌, max, true, if◌then◌else◌, nat_eq, List, [], ◌∷◌, ◌++◌, length, take, drop, map, get_or, replicate}
use Rattle.kd_device.specs.declared.call.Span.{Span}
use Rattle.kd_device.specs.declared.call.Call.{Call}
use Rattle.kd_device.specs.declared.call.Call.TheVariants.{Write, Sync, Emit}
use Rattle.kd_device.specs.Device.{State}
use Rattle.kd_device.specs.History.{Event, Wrote, Synced, Emitted, Disk, Moment, at_first, after, Since, put_by}

-- a file at first and now; no write to it before the end takes memory
pub record FileNow : Type 0 where
  pub start : List ℕ
  pub bytes : List ℕ
  pub end : ℕ

pub record Recording : Type 0 where
  pub starts : List (List ℕ)  -- the files at first, one for each disk
  pub events : List Event  -- the writes, syncs and emits
  pub names : List (ℕ × List ℕ)  -- the names handed to attach, with the disk
  pub spare_calls : ℕ
  pub spare_bytes : ℕ
  pub spare_end : ℕ

-- no call was made
abbrev pub blank : List (List ℕ) → Recording
blank starts = record { starts = starts; events = []; names = []; spare_calls = 0; spare_bytes = 0; spare_end = 0 }

abbrev pub moment_of : Recording → Moment
moment_of r = after (at_first r.starts) r.events

abbrev pub disk_of : ℕ → Recording → Disk
disk_of i r = (moment_of r).disk i

-- after the first calls
abbrev pub moment_at : ℕ → Recording → Moment
moment_at call r = after (at_first r.starts) (take call r.events)

abbrev pub disk_at : ℕ → ℕ → Recording → Disk
disk_at i call r = (moment_at call r).disk i

abbrev pub names_of : ℕ → List (ℕ × List ℕ) → List (List ℕ)
names_of i [] = []
names_of i (n ∷ ns) = if nat_eq i n.0 then n.1 ∷ names_of i ns else names_of i ns

-- what is seen of a disk with the line, with these counts of faults
abbrev pub seen : ℕ → ℕ → ℕ → Recording → State
seen i disk_faults line_faults r =
    record {
      told = true;
      holds = (disk_of i r).bytes;
      sent = (moment_of r).sent;
      put = put_by i r.events;
      names = names_of i r.names;
      disk_faults = disk_faults;
      line_faults = line_faults;
      moment = length r.events;
      spare_calls = r.spare_calls;
      spare_bytes = r.spare_bytes;
      spare_end = r.spare_end;
    }

-- a stop since the t-th call may leave what has P of the disks
abbrev pub left_by : ((ℕ → Disk) → Type 0) → Recording → ℕ → List ℕ → Type 0
left_by P r t out = Since P t (at_first r.starts) r.events out

-- with one disk more
abbrev pub with_disk : Recording → List ℕ → Recording
with_disk r start = record r { starts = r.starts ++ start ∷ [] }

-- after a call with n bytes, done or not
abbrev pub with_event : Recording → Event → ℕ → Recording
with_event r e n = record r { events = r.events ++ e ∷ []; spare_calls = r.spare_calls - 1; spare_bytes = r.spare_bytes - n }

-- after an attach
abbrev pub with_name : Recording → ℕ → List ℕ → Recording
with_name r disk name =
    record r { names = r.names ++ (disk, name) ∷ []; spare_calls = r.spare_calls - 1; spare_bytes = r.spare_bytes - length name }

abbrev pub reserved : Recording → ℕ → ℕ → ℕ → Recording
reserved r calls bytes end =
    record r { spare_calls = max r.spare_calls calls; spare_bytes = max r.spare_bytes bytes; spare_end = max r.spare_end end }

-- the bytes of a span of a buffer
abbrev pub piece : List ℕ → Span → List ℕ
piece kept span = take span.len (drop span.from kept) ++ replicate span.zeros 0

-- the span of bytes of which those in front are put after those that are kept, and the others are zero
pub record IsBehind (kept more : List ℕ) (span : Span) : Type 0 where
  pub from : span.from ≡ length kept
  pub within : span.len ≤ length more
  pub zeros : more ≡ take span.len more ++ replicate span.zeros 0
  pub small : span.len + span.zeros < 2 ^ 64

-- the kept calls
abbrev pub event : List ℕ → Call → Event
event kept (Write disk at span done) = Wrote disk at (piece kept span) done
event kept (Sync disk done) = Synced disk done
event kept (Emit span done) = Emitted (piece kept span) done

abbrev pub events : List ℕ → List Call → List Event
events kept calls = map (event kept) calls

-- the kept names
abbrev pub kept_name : List ℕ → ℕ × Span → ℕ × List ℕ
kept_name kept n = (n.0, piece kept n.1)

abbrev pub kept_names : List ℕ → List (ℕ × Span) → List (ℕ × List ℕ)
kept_names kept spans = map (kept_name kept) spans

-- a buffer of n bytes has what is named of it
pub record Fits (n : ℕ) (span : Span) : Type 0 where
  pub within : span.from + span.len ≤ n
  pub small : span.len + span.zeros < 2 ^ 64

abbrev pub IsInside : ℕ → Call → Type 0
IsInside n (Write disk at span done) = Fits n span
IsInside n (Sync disk done) = Unit {0}
IsInside n (Emit span done) = Fits n span

abbrev pub AllInside : ℕ → List Call → Type 0
AllInside n [] = Unit {0}
AllInside n (x ∷ xs) = IsInside n x × AllInside n xs

abbrev pub AllFit : ℕ → List (ℕ × Span) → Type 0
AllFit n [] = Unit {0}
AllFit n (x ∷ xs) = Fits n x.1 × AllFit n xs

abbrev pub starts_of : List FileNow → List (List ℕ)
starts_of files = map (λ (f : FileNow). f.start) files

abbrev pub bytes_of : List FileNow → List (List ℕ)
bytes_of files = map (λ (f : FileNow). f.bytes) files

abbrev pub ends_of : List FileNow → List ℕ
ends_of files = map (λ (f : FileNow). f.end) files

-- the files and the line are as the kept calls leave them
pub record AreAsMade (files : List FileNow) (sent : List ℕ) (s : Moment) : Type 0 where
  pub bytes_are : (i : ℕ) → i < length files → get_or (bytes_of files) i [] ≡ (s.disk i).bytes
  pub sent_is : sent ≡ s.sent

pub record IsRecording (files : List FileNow) (sent kept : List ℕ) (calls : List Call) (spans : List (ℕ × Span)) : Type 0 where
  pub made : AreAsMade files sent (after (at_first (starts_of files)) (events kept calls))
  pub inside : AllInside (length kept) calls
  pub fit : AllFit (length kept) spans

-- the files have capacity up to here
abbrev pub HaveRoom : ℕ → List FileNow → Type 0
HaveRoom upto files = (i : ℕ) → i < length files → upto ≤ get_or (ends_of files) i 0

-- the files and the buffers have capacity for what is spare
pub record HasCapacity (calls n upto : ℕ) (files : List FileNow) (made made_capacity kept kept_capacity sent sent_capacity names names_capacity : ℕ) : Type 0 where
  pub for_files : HaveRoom upto files
  pub for_made : made + calls ≤ made_capacity
  pub for_kept : kept + n ≤ kept_capacity
  pub for_sent : sent + n ≤ sent_capacity
  pub for_names : names + calls ≤ names_capacity

-- the same files, with no less capacity
pub record SameFiles (old new : List FileNow) : Type 0 where
  pub count : length new ≡ length old
  pub starts : starts_of new ≡ starts_of old
  pub bytes : bytes_of new ≡ bytes_of old
  pub ends : (i : ℕ) → get_or (ends_of old) i 0 ≤ get_or (ends_of new) i 0
