-- What becomes of the locks when a service asks for an area, gives one back, or is over.
use Rattle.std.specs.Prelude.{ℕ, Bool, true, false, not, [], filter, Option, Some, None, if◌then◌else◌}
use Rattle.std.specs.FinMap.{put}
use Rattle.std.specs.FinMap.Entries.{where_key}
use Rattle.kdcs_types.specs.declared.key.Area.{Area}
use Rattle.kdcs_types.specs.declared.key.ServiceId.{ServiceId}
use Rattle.kdcs_types.specs.Keys.{area_cmp, area_eq, id_cmp, id_eq}
use Rattle.abstract_monitor.specs.declared.answer.LockAnswer.{LockAnswer}
use Rattle.abstract_monitor.specs.declared.answer.LockAnswer.TheVariants.{Granted, Wait, Busy, Deadlock}
use Rattle.abstract_monitor.specs.Locks.{Locks, answer_of, holder, since}

-- nobody holds an area, and nobody waits
abbrev pub no_locks : Locks
no_locks = record { holders = []; waits = [] }

-- ---- a request

-- the service holds the area from now on
abbrev pub with_holder : Locks → ServiceId → Area → Locks
with_holder l who area = record l { holders = put area_cmp area who l.holders }

-- the service waits for the area, since the first request of this wait
abbrev pub with_wait : Locks → ServiceId → Area → (now : ℕ) → Locks
with_wait l who area now = record l { waits = put id_cmp who (area, since l who area now) l.waits }

-- no request of the service waits
abbrev pub without_wait : Locks → ServiceId → Locks
without_wait l who = record l { waits = where_key id_cmp (λ i. not (id_eq who i)) l.waits }

-- each answer but Wait ends the wait, and Granted alone gives the area
abbrev pub locks_after : LockAnswer → Locks → (now : ℕ) → ServiceId → Area → Locks
locks_after Granted l now who area = without_wait (with_holder l who area) who
locks_after Wait l now who area = with_wait l who area now
locks_after Busy l now who area = without_wait l who
locks_after Deadlock l now who area = without_wait l who

-- the locks once the request of a service for an area is answered
abbrev pub asked : Locks → (reswait now : ℕ) → ServiceId → Area → Locks
asked l reswait now who area = locks_after (answer_of l reswait now who area) l now who area

-- ---- locks that are given back

-- the service is the holder
abbrev pub is_holder : Option ServiceId → ServiceId → Bool
is_holder None who = false
is_holder (Some other) who = id_eq other who

-- the service holds the area
abbrev pub holds_area : Locks → ServiceId → Area → Bool
holds_area l who area = is_holder (holder l area) who

-- nobody holds the area
abbrev pub without_holder : Locks → Area → Locks
without_holder l area = record l { holders = where_key area_cmp (λ a. not (area_eq area a)) l.holders }

-- the area is given back, where the service holds it
abbrev pub given_back : Locks → Area → (held : Bool) → Locks
given_back l area true = without_holder l area
given_back l area false = l

-- UNLK
abbrev pub unlocked : Locks → ServiceId → Area → Locks
unlocked l who area = given_back l area (holds_area l who area)

-- the service holds nothing, and waits for nothing
abbrev pub freed : Locks → ServiceId → Locks
freed l who = record (without_wait l who) { holders = filter (λ (e : Area × ServiceId). not (id_eq e.1 who)) l.holders }

-- ---- who holds an area then

-- an area that the asker asks for is its own once it is granted, and no other changes hands
abbrev pub holder_after : LockAnswer → ServiceId → (same : Bool) → Option ServiceId → Option ServiceId
holder_after Granted who true before = Some who
holder_after Granted who false before = before
holder_after Wait who same before = before
holder_after Busy who same before = before
holder_after Deadlock who same before = before

-- nobody, where this service was the holder
abbrev pub other_than : ServiceId → Option ServiceId → Option ServiceId
other_than who None = None
other_than who (Some holder) = if id_eq holder who then None else Some holder
