-- How the transaction of a record opens in the code.
use Rattle.std.specs.Prelude.{◌≡◌, Bool, true, false, IsTrue, [], ◌∷◌, Option, Some}
use Rattle.kdcs_types.specs.declared.run_state.Header.{Header}
use Rattle.kdcs_types.specs.declared.service.Service.{Service}
use Rattle.kdcs_types.specs.Tables.{TableRows, service_of}
use Rattle.application_types.specs.Generation.{Generated}
use Rattle.abstract_monitor.specs.Bytes.{Bytes}
use Rattle.abstract_monitor.specs.Endings.{header_of_row, opened, opened_by_row}
use Rattle.abstract_monitor.specs.State.{OpenTransaction as Transaction}
use Rattle.abstract_monitor.specs.Statements.{Kept}
use Rattle.laws_of_states.specs.Replay.{input_at, lterm_in}
use Rattle.open_transaction.specs.Transactions.{Boxed, boxed_transaction}
use Rattle.serial_audit.specs.Audit.{HasDueJob, has_user}
use Rattle.serial_audit.specs.Replaying.{app_of, kept_in, tables_in}
use Rattle.serial_audit.specs.declared.replay.Replay.{Replay}

-- it is this transaction, of the record's service
pub record IsOpened (p : Replay) (x : Transaction) (b : Boxed) : Type 0 where
  pub is : boxed_transaction b ≡ x
  pub own : b.value.id ≡ (kept_in p).service
  pub nb : b.value.messages.nb ≡ (app_of p).generation.limits.nb

-- the first input; none is empty
abbrev pub first_read : Kept → Bytes
first_read r = input_at r 0

-- it has the first input to read
abbrev pub reads_first : Replay → Option Service → Header → Transaction
reads_first p began header = opened (app_of p).generation began header (first_read (kept_in p) ∷ []) (first_read (kept_in p) ∷ [])

-- it goes on from its row
abbrev pub dialogue_opened : Replay → Service → (awaits : Bool) → Transaction
dialogue_opened p row true = reads_first p (Some row) (header_of_row (kept_in p).service row (lterm_in (kept_in p)))
dialogue_opened p row false = opened_by_row (app_of p).generation (kept_in p).service row (lterm_in (kept_in p))

-- the service has the row with which it began, or none; its user, and the job that it begins with, are there
pub record Rooted (g : Generated) (t : TableRows) (r : Kept) : Type 0 where
  pub rooted : service_of t r.service ≡ r.began
  pub user : IsTrue (has_user g r.service)
  pub job : HasDueJob t r r.service r.began

abbrev pub CanOpen : Replay → Type 0
CanOpen p = Rooted (app_of p).generation (tables_in p) (kept_in p)
