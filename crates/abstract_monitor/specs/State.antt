-- What a monitor consists of: an application, open transactions, and the state of tables, sessions, tasks and services.
use Rattle.std.specs.Prelude.{ℕ, Bool, List, Option, Some, None, bytes_eq, find}
use Rattle.kdcs_types.specs.declared.key.Area.{Area}
use Rattle.kdcs_types.specs.declared.key.ServiceId.{ServiceId}
use Rattle.kdcs_types.specs.declared.service.Service.{Service}
use Rattle.kdcs_types.specs.declared.service.Note.{Note}
use Rattle.kdcs_types.specs.declared.run_state.RunState.{RunState}
use Rattle.application_types.specs.declared.kdcdef_types.entry.TacEntry.{TacEntry}
use Rattle.application_types.specs.Generation.{Generated, tac_of}
use Rattle.application_types.specs.UnitText.{UnitText}
use Rattle.abstract_monitor.specs.declared.draft.Draft.{Draft}
use Rattle.abstract_monitor.specs.Bytes.{Bytes}
use Rattle.kdcs_types.specs.Tables.{TableRows}

-- an application: its generation, and its program units
pub record Application : Type 0 where
  pub generation : Generated
  pub units : List UnitText

-- no unit without a TAC
abbrev pub unit_by : Application → Option TacEntry → Option UnitText
unit_by app None = None
unit_by app (Some t) = find (λ (u : UnitText). bytes_eq t.program u.name) app.units

-- the program unit of a TAC
unfoldable pub unit_of : Application → Bytes → Option UnitText
unit_of app tac = unit_by app (tac_of app.generation tac)

-- what a service has done since its last synchronisation point; a request that waits is beside it, in the state
pub record OpenTransaction : Type 0 where
  -- the row of its service as it began, if there was one
  pub began : Option Service
  -- the first TAC of its service: KCTACVG
  pub first : Bytes
  pub user : Bytes
  pub lterm : Bytes
  -- the terminal inputs that it accepted
  pub inputs : List Bytes
  -- the TAC whose unit runs: KCTACAL
  pub current : Bytes
  pub run : RunState
  -- INIT is done in this unit run
  pub inited : Bool
  -- the message parts that are still to be read
  pub unread : List Bytes
  -- the message parts put
  pub parts : List Bytes
  -- the areas written, in the order of their keys, each with its last content, or none where it is deleted
  pub written : List (Area × Option Bytes)
  pub lssbs : List (Bytes × Bytes)
  pub drafts : List Draft
  -- the areas that it holds, in the order in which it asked for them
  pub touched : List Area
  pub notes : List Note
  -- how many statements it has done
  pub statements : ℕ

-- a user who is signed on, and the last OUT message of this session
pub record Session : Type 0 where
  pub user : Bytes
  pub last : Option Bytes

-- all that the monitor has between two steps
pub record State : Type 0 where
  pub tables : TableRows
  -- sessions by PTERM
  pub signed : List (Bytes × Session)
  -- the services that are ready, front first
  pub ready : List ServiceId
  -- each task's service, if it holds one
  pub tasks : List (Option ServiceId)
  -- the open transactions by their services, in ascending order
  pub active : List (ServiceId × OpenTransaction)
  -- by the services that wait, in ascending order: the area, and the clock of the first request
  pub waits : List (ServiceId × (Area × ℕ))
