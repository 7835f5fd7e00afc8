-- One statement of an open transaction, by what it is told of the outside. A turn and a replay both read it.
use Rattle.std.specs.Prelude.{ℕ, ◌+◌, Bool, List, ◌∷◌, Option, Some, None, option_map}
use Rattle.kd_base.specs.declared.words.Variant.{Variant}
use Rattle.kd_base.specs.declared.words.Variant.TheVariants.{Fr}
use Rattle.kdcs_types.specs.declared.call.Call.{Call}
use Rattle.kdcs_types.specs.declared.call.Call.TheVariants.{SgetGb, SputGb, SrelGb, SgetUs, SputUs, Gtda, Ptda, UnlkGb, UnlkUs, UnlkDa}
use Rattle.kdcs_types.specs.declared.call.Cause.TheVariants.{Er as ErCause}
use Rattle.kdcs_types.specs.declared.call.Reply.{Reply}
use Rattle.kdcs_types.specs.declared.key.Area.{Area}
use Rattle.kdcs_types.specs.declared.key.Area.TheVariants.{Gssb, Tls, Uls}
use Rattle.kdcs_types.specs.declared.key.ServiceId.{ServiceId}
use Rattle.kdcs_types.specs.declared.service.Ending.{Ending}
use Rattle.kdcs_types.specs.declared.service.Ending.TheVariants.{Broken, BrokenFr}
use Rattle.kdcs_types.specs.declared.service.Note.{Note}
use Rattle.kdcs_types.specs.declared.service.Service.{Service}
use Rattle.kdcs_types.specs.declared.service.Settled.{Settled}
use Rattle.application_types.specs.UnitText.{UnitText}
use Rattle.abstract_monitor.specs.declared.answer.Called.{Called}
use Rattle.abstract_monitor.specs.declared.answer.Called.TheVariants.{Replied, Waits, Abnormal, Pends}
use Rattle.abstract_monitor.specs.declared.answer.Happened.{Happened}
use Rattle.abstract_monitor.specs.declared.answer.Happened.TheVariants.{Went, Queued, Waited, Held, Settles, Breaks, Returns}
use Rattle.abstract_monitor.specs.declared.outcome.Outcome.{Outcome}
use Rattle.abstract_monitor.specs.declared.outcome.Outcome.TheVariants.{Hold, Stay, Queue, Wait, Point, Follow, Finish, Break, Back}
use Rattle.abstract_monitor.specs.Bytes.{Bytes}
use Rattle.abstract_monitor.specs.Statement.{Meaning, Plain, Asks, Ends, step, answered}
use Rattle.abstract_monitor.specs.State.{Application, OpenTransaction, unit_of}
use Rattle.abstract_monitor.specs.Calls.{Told, Performed, name_in_operand, call_outcome}
use Rattle.abstract_monitor.specs.Endings.{followed}

-- the open transaction after a statement, and what the statement does; but where it is done, nothing changes
abbrev pub Stated : Type 0
Stated = OpenTransaction × Happened

-- ---- the area of which a statement asks

-- the area of which a call asks; most ask of none, and a name that is none is refused first
abbrev pub area_of_call : OpenTransaction → Call → Option Area
area_of_call x (SgetGb name capacity) = option_map Gssb (name_in_operand name)
area_of_call x (SputGb name bytes) = option_map Gssb (name_in_operand name)
area_of_call x (SrelGb name) = option_map Gssb (name_in_operand name)
area_of_call x (UnlkGb name) = option_map Gssb (name_in_operand name)
area_of_call x (SgetUs name capacity) = option_map (λ block. Uls block x.user) (name_in_operand name)
area_of_call x (SputUs name bytes) = option_map (λ block. Uls block x.user) (name_in_operand name)
area_of_call x (UnlkUs name) = option_map (λ block. Uls block x.user) (name_in_operand name)
area_of_call x (Gtda name capacity) = option_map (λ block. Tls block x.lterm) (name_in_operand name)
area_of_call x (Ptda name bytes) = option_map (λ block. Tls block x.lterm) (name_in_operand name)
area_of_call x (UnlkDa name) = option_map (λ block. Tls block x.lterm) (name_in_operand name)
area_of_call x _ = None

-- a plain statement asks of none
abbrev pub area_of_step : OpenTransaction → Meaning → Option Area
area_of_step x (Plain after) = None
area_of_step x (Ends cause) = None
area_of_step x (Asks call) = area_of_call x call

-- none without a unit
abbrev pub area_in_unit : OpenTransaction → Option UnitText → Option Area
area_in_unit x None = None
area_in_unit x (Some unit) = area_of_step x (step unit x.run)

-- the area of which the next statement asks
unfoldable pub area_of : Application → OpenTransaction → Option Area
area_of app x = area_in_unit x (unit_of app x.current)

-- ---- the statement

-- a call that is answered: the statement is counted, and code, length and content are stored
abbrev pub counted : UnitText → OpenTransaction → Reply → OpenTransaction
counted unit x reply = record x { run = answered unit x.run reply; statements = x.statements + 1 }

-- PEND FR and PEND ER both break the transaction
abbrev pub break_ending : Variant → Ending
break_ending Fr = BrokenFr
break_ending _ = Broken ErCause

-- what the outcome of a PEND does: PR goes on and PA is queued in a further unit run, and the others change the state alone
abbrev pub by_outcome : Application → (asynchronous : Bool) → OpenTransaction → Variant → Outcome → Stated
by_outcome app asynchronous x variant (Stay tac) = (followed app.generation asynchronous x tac, Went)
by_outcome app asynchronous x variant (Queue tac) = (followed app.generation asynchronous x tac, Queued)
by_outcome app asynchronous x variant (Hold tac) = (x, Held tac)
by_outcome app asynchronous x variant (Wait tac) = (x, Settles (Wait tac))
by_outcome app asynchronous x variant (Point tac) = (x, Settles (Point tac))
by_outcome app asynchronous x variant (Follow tac) = (x, Settles (Follow tac))
by_outcome app asynchronous x variant Finish = (x, Settles Finish)
by_outcome app asynchronous x variant Break = (x, Breaks (break_ending variant))
by_outcome app asynchronous x variant Back = (x, Returns)

-- what the answer of a call does
abbrev pub by_call : Application → (asynchronous : Bool) → UnitText → OpenTransaction → Called → Stated
by_call app asynchronous unit x (Replied reply) = (counted unit x reply, Went)
by_call app asynchronous unit x Waits = (x, Waited)
by_call app asynchronous unit x (Abnormal cause) = (x, Breaks (Broken cause))
by_call app asynchronous unit x (Pends variant o) = by_outcome app asynchronous x variant o

-- a call that was performed
abbrev pub by_performed : Application → (asynchronous : Bool) → UnitText → Performed → Stated
by_performed app asynchronous unit p = by_call app asynchronous unit p.0 p.1

-- a plain statement is done and counted; a call asks
abbrev pub by_step : Application → Told → (asynchronous : Bool) → OpenTransaction → UnitText → Meaning → Stated
by_step app v asynchronous x unit (Plain after) = (record x { run = after; statements = x.statements + 1 }, Went)
by_step app v asynchronous x unit (Ends cause) = (x, Breaks (Broken cause))
by_step app v asynchronous x unit (Asks call) = by_performed app asynchronous unit (call_outcome app.generation v asynchronous x call)

-- every TAC has a unit, so no run comes to the first case
abbrev pub in_unit : Application → Told → (asynchronous : Bool) → OpenTransaction → Option UnitText → Stated
in_unit app v asynchronous x None = (x, Returns)
in_unit app v asynchronous x (Some unit) = by_step app v asynchronous x unit (step unit x.run)

-- what the next statement does
unfoldable pub statement : Application → Told → (asynchronous : Bool) → OpenTransaction → Stated
statement app v asynchronous x = in_unit app v asynchronous x (unit_of app x.current)

-- ---- what a transaction keeps for its replay

-- what it has done so far; the inputs begin with the first TAC of its service and its LTERM
pub record Kept : Type 0 where
  pub service : ServiceId
  pub began : Option Service
  pub inputs : List Bytes
  pub notes : List Note
  pub statements : ℕ

-- the record of an open transaction, without an ending
abbrev pub kept_so_far : ServiceId → OpenTransaction → Kept
kept_so_far id x = record { service = id; began = x.began; inputs = x.first ∷ x.lterm ∷ x.inputs; notes = x.notes; statements = x.statements }

-- the kept record of a transaction that ended so
abbrev pub kept_record : ServiceId → OpenTransaction → Ending → Settled
kept_record id x ending = record { service = id; began = x.began; inputs = x.first ∷ x.lterm ∷ x.inputs; notes = x.notes; statements = x.statements; ending = ending }

-- a kept record without its ending
abbrev pub kept_of : Settled → Kept
kept_of r = record { service = r.service; began = r.began; inputs = r.inputs; notes = r.notes; statements = r.statements }
