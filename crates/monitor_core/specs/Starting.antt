-- A start, one service after another.
use Rattle.std.specs.Prelude.{◌≡◌, true, false, List, [], ◌∷◌, replicate, Some, None, is_some}
use Rattle.std.specs.FinMap.{find}
use Rattle.kdcs_types.specs.declared.key.ServiceId.{ServiceId}
use Rattle.kdcs_types.specs.declared.service.Service.{Service}
use Rattle.kdcs_types.specs.Keys.{id_cmp, id_eq}
use Rattle.kdcs_types.specs.Tables.{TableRows}
use Rattle.application_types.specs.Generation.{Generated}
use Rattle.open_transaction.specs.Transactions.{HasOrder}
use Rattle.abstract_monitor.specs.Endings.{lterm_of_row, opened_by_row}
use Rattle.abstract_monitor.specs.Sessions.{is_running}
use Rattle.abstract_monitor.specs.State.{Application, State}
use Rattle.abstract_monitor.specs.Turns.{queued}
use Rattle.service_ends.specs.Standing.{Each}

-- nobody is signed on, all tasks are free, and no service is open
abbrev pub idle : Generated → TableRows → State
idle g t = record { tables = t; signed = []; ready = []; tasks = replicate g.limits.tasks None; active = []; waits = [] }

-- the service goes on from its row
abbrev pub opened_then : Application → State → Service → State
opened_then app s row = queued s row.id (opened_by_row app.generation row.id row (lterm_of_row row.lterm))

-- one after another
abbrev pub all_opened : Application → State → List Service → State
all_opened app s [] = s
all_opened app s (row ∷ rows) = all_opened app (opened_then app s row) rows

-- the service is nowhere yet, and its row says its LTERM and has its LSSBs in order
pub record IsFresh (s : State) (row : Service) : Type 0 where
  pub closed : find id_cmp row.id s.active ≡ None
  pub unplaced : is_running s row.id ≡ false
  pub lterm : is_some row.lterm ≡ true
  pub order : HasOrder (Some row)

-- no row of these is of the service
abbrev pub IsApart : ServiceId → List Service → Type 0
IsApart id = Each (λ (row : Service). id_eq row.id id ≡ false)

-- so are all these, each of another service
abbrev pub AreFresh : State → List Service → Type 0
AreFresh s [] = Unit {0}
AreFresh s (row ∷ rows) = IsFresh s row × IsApart row.id rows × AreFresh s rows
