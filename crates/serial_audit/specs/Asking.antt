-- What a call asks of an area, and what a replay tells it.
use Rattle.std.specs.Prelude.{◌≡◌, ◌-◌, ◌&&◌, ℕ, Bool, true, false, [], ◌∷◌, ◌++◌, length, nat_lt, take, Option, Some, None, if◌then◌else◌}
use Rattle.kdcs_types.specs.declared.call.Call.{Call}
use Rattle.kdcs_types.specs.declared.call.Call.TheVariants.{SgetGb, SputGb, SrelGb, SgetUs, SputUs, Gtda, Ptda}
use Rattle.kdcs_types.specs.declared.key.Area.{Area}
use Rattle.kdcs_types.specs.declared.key.ServiceId.{ServiceId}
use Rattle.kdcs_types.specs.declared.service.Note.{Note}
use Rattle.kdcs_types.specs.Tables.{TableRows, empty_tables, with_change}
use Rattle.application_types.specs.Generation.{Generated}
use Rattle.abstract_monitor.specs.Bytes.{Bytes}
use Rattle.abstract_monitor.specs.Calls.{touches}
use Rattle.abstract_monitor.specs.Endings.{area_change, is_asynchronous}
use Rattle.abstract_monitor.specs.Locks.{Locks, holder}
use Rattle.abstract_monitor.specs.State.{Application, OpenTransaction}
use Rattle.abstract_monitor.specs.Statements.{Kept, Stated, area_of_call, by_performed}
use Rattle.abstract_monitor.specs.Calls.{call_outcome}
use Rattle.kdcs_calls.specs.Calling.{is_declared}
use Rattle.laws_of_states.specs.Replay.{replay_told}
use Rattle.application_types.specs.UnitText.{UnitText}

-- ---- calls

-- a call that asks for the lock of its area; UNLK gives one back
abbrev pub locks : Call → Bool
locks (SgetGb name capacity) = true
locks (SputGb name bytes) = true
locks (SrelGb name) = true
locks (SgetUs name capacity) = true
locks (SputUs name bytes) = true
locks (Gtda name capacity) = true
locks (Ptda name bytes) = true
locks _ = false

-- once INIT is done, it comes to ask for the lock of an area that is declared
abbrev pub asks_lock : Generated → OpenTransaction → Call → Area → Bool
asks_lock g x call area = x.inited && (locks call && is_declared g area)

-- ---- locks

-- the service alone holds areas, and those are the ones that its transaction touches
abbrev pub HoldsAlone : Locks → ServiceId → OpenTransaction → Type 0
HoldsAlone l id x = (area : Area) → holder l area ≡ (if touches x area then Some id else None)

-- ---- what is shown

-- tables that show this content in the area, as far as tables can, and nothing else
abbrev pub showing : (clock : ℕ) → Area → Option Bytes → TableRows
showing clock area None = record empty_tables { clock = clock }
showing clock area (Some content) = with_change (record empty_tables { clock = clock }) (area_change area (Some content))

-- the last note, where there are more than so many, is this one
abbrev pub relabelled : (before : ℕ) → Note → OpenTransaction → OpenTransaction
relabelled before n x = if nat_lt before (length x.notes) then record x { notes = take (length x.notes - 1) x.notes ++ n ∷ [] } else x

-- ---- a call of a replay

-- what the call does, told what the replay tells
abbrev pub call_replayed : Application → TableRows → Kept → OpenTransaction → UnitText → Call → Stated
call_replayed app t r x unit call =
    by_performed app (is_asynchronous r.service) unit (call_outcome app.generation (replay_told t r x (area_of_call x call)) (is_asynchronous r.service) x call)
