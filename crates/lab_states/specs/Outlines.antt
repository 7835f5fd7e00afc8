-- What determines a state of a monitor: its tables, sessions, services, tasks and waits, and what each open transaction has kept for its replay.
use Rattle.std.specs.Prelude.{◌≡◌, ℕ, List, Option, map}
use Rattle.kdcs_types.specs.declared.key.Area.{Area}
use Rattle.kdcs_types.specs.declared.key.ServiceId.{ServiceId}
use Rattle.kdcs_types.specs.declared.service.Ending.TheVariants.{Synced}
use Rattle.kdcs_types.specs.declared.service.Settled.{Settled}
use Rattle.kdcs_types.specs.Tables.{TableRows}
use Rattle.abstract_monitor.specs.Bytes.{Bytes}
use Rattle.abstract_monitor.specs.State.{Application, OpenTransaction, Session, State}
use Rattle.abstract_monitor.specs.Statements.{kept_record}
use Rattle.laws_of_states.specs.Keeping.{HasFacts}
use Rattle.laws_of_runs.specs.Replays.{AllReplay}

pub record Outlined : Type 0 where
  pub tables : TableRows
  pub signed : List (Bytes × Session)
  pub ready : List ServiceId
  pub tasks : List (Option ServiceId)
  pub waits : List (ServiceId × (Area × ℕ))
  -- what each open transaction has kept so far, as if it ended here
  pub kept : List Settled

-- of an open transaction
abbrev pub kept_now : ServiceId × OpenTransaction → Settled
kept_now e = kept_record e.0 e.1 Synced

abbrev pub outlined : State → Outlined
outlined s = record {
  tables = s.tables;
  signed = s.signed;
  ready = s.ready;
  tasks = s.tasks;
  waits = s.waits;
  kept = map kept_now s.active;
}

-- states with one outline are one, where their transactions replay to themselves
abbrev pub OutlinesTellStates : Type 0
OutlinesTellStates = (app : Application) (s u : State) → HasFacts app s → HasFacts app u → AllReplay app s → AllReplay app u → outlined s ≡ outlined u → s ≡ u
