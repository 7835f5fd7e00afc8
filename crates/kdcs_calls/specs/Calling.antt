-- A KDCS call as the running system performs it: what it may be asked on, what it answers, and what becomes of the locks.
use Rattle.std.specs.Prelude.{◌≡◌, ◌≤◌, ℕ, Bool, true, ◌&&◌, not, All, List, length, Option, Some, None, IfSome, is_some, if◌then◌else◌}
use Rattle.std.specs.FinMap.{find}
use Rattle.kdcs_types.specs.declared.call.Call.{Call}
use Rattle.kdcs_types.specs.declared.call.Call.TheVariants.{SgetGb, SputGb, SrelGb, SgetUs, SputUs, Gtda, Ptda, UnlkGb, UnlkUs, UnlkDa}
use Rattle.kdcs_types.specs.declared.key.Area.{Area}
use Rattle.kdcs_types.specs.declared.key.Area.TheVariants.{Gssb, Tls, Uls}
use Rattle.kdcs_types.specs.declared.key.ServiceId.{ServiceId}
use Rattle.kdcs_types.specs.Keys.{area_cmp}
use Rattle.kdcs_types.specs.Tables.{TableRows, content_of}
use Rattle.application_types.specs.Generation.{Generated, has_tls, has_uls}
use Rattle.monitor_parts.specs.Asked.{asked, holds_area, other_than, unlocked, with_wait, without_wait}
use Rattle.abstract_monitor.specs.declared.answer.Called.{Called}
use Rattle.abstract_monitor.specs.declared.answer.Called.TheVariants.{Replied, Waits, Abnormal, Pends}
use Rattle.abstract_monitor.specs.Bytes.{Bytes, bytes_cmp}
use Rattle.abstract_monitor.specs.Calls.{Performed, call_outcome, called, shown_by, touches}
use Rattle.abstract_monitor.specs.Endings.{is_asynchronous}
use Rattle.abstract_monitor.specs.Locks.{Locks, Waiting, holder, told_now}
use Rattle.abstract_monitor.specs.Statements.{area_of_call}
use Rattle.abstract_monitor.specs.State.{OpenTransaction as Transaction}

-- ---- when a call may be performed

-- the locks give the service exactly the areas that its transaction touches
abbrev pub HoldsJust : Locks → ServiceId → Transaction → Type 0
HoldsJust l id x = (area : Area) → holds_area l id area ≡ touches x area

-- a content that a call may read
abbrev pub IsShort : Bytes → Type 0
IsShort bytes = length bytes ≤ 32767

-- each part, area and LSSB that the transaction may read is short
pub record CanRead (t : TableRows) (x : Transaction) : Type 0 where
  pub parts : All IsShort x.unread
  pub areas : (area : Area) → IfSome (shown_by (find area_cmp area x.written) (content_of t area)) IsShort
  pub lssbs : (name : Bytes) → IfSome (find bytes_cmp name x.lssbs) IsShort

-- the service holds what its transaction touches, and no other area changes hands
abbrev pub holder_then : ServiceId → Transaction → Area → (before : Option ServiceId) → Option ServiceId
holder_then id x area before = if touches x area then Some id else other_than id before

-- so it is with each area, from these locks to those
abbrev pub HoldersMatch : (before after : Locks) → ServiceId → Transaction → Type 0
HoldersMatch l m id x = (area : Area) → holder m area ≡ holder_then id x area (holder l area)

-- only a call that asks of an area waits: since the first request of this wait
abbrev pub waits_for_area : Locks → ServiceId → (now : ℕ) → Option Area → List (ServiceId × Waiting)
waits_for_area l id now None = l.waits
waits_for_area l id now (Some area) = (with_wait l id area now).waits

-- an answered call changes no wait of another service, one that waits has its wait, and the others leave the waits as they were
abbrev pub WaitsMatch : (before after : Locks) → ServiceId → (now : ℕ) → Option Area → Called → Type 0
WaitsMatch l m id now area (Replied reply) = (without_wait m id).waits ≡ (without_wait l id).waits
WaitsMatch l m id now area Waits = m.waits ≡ waits_for_area l id now area
WaitsMatch l m id now area (Abnormal cause) = m.waits ≡ l.waits
WaitsMatch l m id now area (Pends variant o) = m.waits ≡ l.waits

-- ---- what it answers

-- the call, told what the locks and the tables say now
abbrev pub performed_now : Generated → TableRows → Locks → ServiceId → Transaction → Call → Performed
performed_now g t l id x call = call_outcome g (told_now l g.limits.reswait t id (area_of_call x call)) (is_asynchronous id) x call

-- the same, once INIT is done
abbrev pub called_now : Generated → TableRows → Locks → ServiceId → Transaction → Call → Performed
called_now g t l id x call = called g (told_now l g.limits.reswait t id (area_of_call x call)) (is_asynchronous id) x call

-- ---- what becomes of the locks

-- no area is asked of where no block of this name is declared
abbrev pub is_declared : Generated → Area → Bool
is_declared g (Gssb name) = true
is_declared g (Tls block lterm) = has_tls g block
is_declared g (Uls block user) = has_uls g block

-- a call that reads or writes an area asks for its lock
abbrev pub after_request : Generated → (now : ℕ) → Locks → ServiceId → Option Area → Locks
after_request g now l id None = l
after_request g now l id (Some area) = if is_declared g area then asked l g.limits.reswait now id area else l

-- the transaction holds the area, and has not written or deleted it
abbrev pub may_release : Transaction → Area → Bool
may_release x area = touches x area && not (is_some (find area_cmp area x.written))

-- UNLK gives back an area that may be released
abbrev pub after_release : Generated → Locks → ServiceId → Transaction → Option Area → Locks
after_release g l id x None = l
after_release g l id x (Some area) = if is_declared g area && may_release x area then unlocked l id area else l

-- the locks after a call, once INIT is done
abbrev pub locks_by_call : Generated → (now : ℕ) → Locks → ServiceId → Transaction → Call → Locks
locks_by_call g now l id x (SgetGb name capacity) = after_request g now l id (area_of_call x (SgetGb name capacity))
locks_by_call g now l id x (SputGb name bytes) = after_request g now l id (area_of_call x (SputGb name bytes))
locks_by_call g now l id x (SrelGb name) = after_request g now l id (area_of_call x (SrelGb name))
locks_by_call g now l id x (SgetUs name capacity) = after_request g now l id (area_of_call x (SgetUs name capacity))
locks_by_call g now l id x (SputUs name bytes) = after_request g now l id (area_of_call x (SputUs name bytes))
locks_by_call g now l id x (Gtda name capacity) = after_request g now l id (area_of_call x (Gtda name capacity))
locks_by_call g now l id x (Ptda name bytes) = after_request g now l id (area_of_call x (Ptda name bytes))
locks_by_call g now l id x (UnlkGb name) = after_release g l id x (area_of_call x (UnlkGb name))
locks_by_call g now l id x (UnlkUs name) = after_release g l id x (area_of_call x (UnlkUs name))
locks_by_call g now l id x (UnlkDa name) = after_release g l id x (area_of_call x (UnlkDa name))
locks_by_call g now l id x _ = l

-- the locks after a call; before INIT is done, no lock is asked for
abbrev pub locks_after_call : Generated → (now : ℕ) → Locks → ServiceId → Transaction → Call → Locks
locks_after_call g now l id x call = if x.inited then locks_by_call g now l id x call else l
