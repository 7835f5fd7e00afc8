-- Who holds an area, who waits for whom, and how a request for an area is answered.
use Rattle.std.specs.Prelude.{◌≡◌, IsTrue, ℕ, zero, suc, ◌+◌, Bool, true, false, ◌||◌, List, [], ◌∷◌, length, map, flat_map, Option, Some, None, nat_le, option_map, option_and_then, if◌then◌else◌}
use Rattle.std.specs.FinMap.{find}
use Rattle.kdcs_types.specs.declared.key.Area.{Area}
use Rattle.kdcs_types.specs.declared.key.ServiceId.{ServiceId}
use Rattle.kdcs_types.specs.Keys.{area_cmp, area_eq, id_cmp, id_eq}
use Rattle.kdcs_types.specs.Tables.{TableRows, content_of}
use Rattle.abstract_monitor.specs.declared.answer.LockAnswer.{LockAnswer}
use Rattle.abstract_monitor.specs.declared.answer.LockAnswer.TheVariants.{Granted, Wait, Busy, Deadlock}
use Rattle.abstract_monitor.specs.State.{OpenTransaction, State}
use Rattle.abstract_monitor.specs.Calls.{Told, nothing_told, touches}

-- the area of which a service asks, and the clock of its first request
abbrev pub Waiting : Type 0
Waiting = Area × ℕ

-- all that a request for an area looks at: who holds which area, and who waits for which
pub record Locks : Type 0 where
  pub holders : List (Area × ServiceId)
  pub waits : List (ServiceId × Waiting)

-- the service that holds the area
abbrev pub holder : Locks → Area → Option ServiceId
holder l area = find area_cmp area l.holders

-- the request of the service that waits
abbrev pub wait_of : Locks → ServiceId → Option Waiting
wait_of l id = find id_cmp id l.waits

-- the area for which the service waits
abbrev pub awaited : Locks → ServiceId → Option Area
awaited l id = option_map (λ (w : Waiting). w.0) (wait_of l id)

-- ---- deadlock

-- the service waits for an area that the other holds
pub record WaitsFor (l : Locks) (id other : ServiceId) : Type 0 where
  pub area : Area
  pub awaits : awaited l id ≡ Some area
  pub holds : holder l area ≡ Some other

-- each waits for the next, and the last is the asker
abbrev pub IsChain : Locks → ServiceId → ServiceId → List ServiceId → Type 0
IsChain l asker id [] = id ≡ asker
IsChain l asker id (next ∷ rest) = WaitsFor l id next × IsChain l asker next rest

-- a list of services: the first holds the area and is not the asker, each waits for the next, and the last is the asker
pub record IsDeadlocked (l : Locks) (asker : ServiceId) (area : Area) : Type 0 where
  pub first : ServiceId
  pub rest : List ServiceId
  pub holds : holder l area ≡ Some first
  pub other : id_eq first asker ≡ false
  pub chain : IsChain l asker first rest

-- the service for which this one waits
abbrev pub waits_for : Locks → ServiceId → Option ServiceId
waits_for l id = option_and_then (holder l) (awaited l id)

-- following the waits from a service for so many steps reaches the asker
unfoldable pub reaches : ℕ → Locks → (asker : ServiceId) → Option ServiceId → Bool
reaches n l asker None = false
reaches zero l asker (Some id) = id_eq id asker
reaches (suc n) l asker (Some id) = id_eq id asker || reaches n l asker (waits_for l id)

-- waiting for the holder of an area would never end: a chain of waits is no longer than there are waits
abbrev pub is_deadlocked : Locks → (asker holder : ServiceId) → Bool
is_deadlocked l asker other = reaches (length l.waits) l asker (Some other)

-- ---- a request

-- a request for another area than the one awaited begins a new wait
abbrev pub since_by : Area → ℕ → Option Waiting → ℕ
since_by area now None = now
since_by area now (Some w) = if area_eq area w.0 then w.1 else now

-- the clock of the first request of this wait
abbrev pub since : Locks → ServiceId → Area → (now : ℕ) → ℕ
since l id area now = since_by area now (wait_of l id)

-- a deadlock is answered before the wait is looked at
abbrev pub refused_by : (deadlock late : Bool) → LockAnswer
refused_by true late = Deadlock
refused_by false true = Busy
refused_by false false = Wait

-- an area that the asker holds is granted; for another's, K05 where there is a deadlock, else K04 where RESWAIT is over, else it waits
abbrev pub answer_of_held : Locks → (reswait now : ℕ) → ServiceId → Area → (holder : ServiceId) → (own : Bool) → LockAnswer
answer_of_held l reswait now id area other true = Granted
answer_of_held l reswait now id area other false = refused_by (is_deadlocked l id other) (nat_le (since l id area now + reswait) now)

-- an area that nobody holds is granted
abbrev pub answer_by_holder : Locks → (reswait now : ℕ) → ServiceId → Area → Option ServiceId → LockAnswer
answer_by_holder l reswait now id area None = Granted
answer_by_holder l reswait now id area (Some other) = answer_of_held l reswait now id area other (id_eq other id)

-- how a request of a service for an area is answered
unfoldable pub answer_of : Locks → (reswait now : ℕ) → ServiceId → Area → LockAnswer
answer_of l reswait now id area = answer_by_holder l reswait now id area (holder l area)

-- what a service is told of the area of which it asks
unfoldable pub told_now : Locks → (reswait : ℕ) → TableRows → ServiceId → Option Area → Told
told_now l reswait t id None = nothing_told
told_now l reswait t id (Some area) = record { answer = answer_of l reswait t.clock id area; content = content_of t area }

-- ---- the locks of a state

-- the open transactions by their services
abbrev pub Active : Type 0
Active = List (ServiceId × OpenTransaction)

-- the areas that a service holds
abbrev pub held_by : ServiceId × OpenTransaction → List (Area × ServiceId)
held_by e = map (λ (area : Area). (area, e.0)) e.1.touched

-- who holds which area: the open transaction that has it among its touched ones
abbrev pub held_areas : Active → List (Area × ServiceId)
held_areas active = flat_map held_by active

-- the locks of a state
abbrev pub locks_of : State → Locks
locks_of s = record { holders = held_areas s.active; waits = s.waits }

-- without an open transaction nothing is held
abbrev pub touched_by : Option OpenTransaction → Area → Bool
touched_by None area = false
touched_by (Some x) area = touches x area

-- the open transaction of the service has the area among its touched ones
abbrev pub holds : Active → ServiceId → Area → Bool
holds active id area = touched_by (find id_cmp id active) area

-- the service holds the area
abbrev pub Holds : Active → ServiceId → Area → Type 0
Holds active id area = IsTrue (holds active id area)

-- no area is touched by two open transactions
abbrev pub IsExclusive : Active → Type 0
IsExclusive active = (i j : ServiceId) (area : Area) → Holds active i area → Holds active j area → i ≡ j
