-- A replay in the code: what it looks at, and what holds along it.
use Rattle.std.specs.Prelude.{◌≡◌, ◌≤◌, ◌<◌, ℕ, Bool, true, false, IsTrue, length}
use Rattle.std.specs.List.{list_all}
use Rattle.kdcs_types.specs.Tables.{TableRows}
use Rattle.application_types.specs.Generation.{Generated}
use Rattle.abstract_monitor.specs.Bytes.{Bytes}
use Rattle.abstract_monitor.specs.Endings.{followed_by_input}
use Rattle.abstract_monitor.specs.Locks.{Locks}
use Rattle.abstract_monitor.specs.State.{Application, OpenTransaction as Transaction}
use Rattle.abstract_monitor.specs.Statements.{Kept, kept_of}
use Rattle.laws_of_runs.specs.Applied.{applied}
use Rattle.laws_of_states.specs.Applications.{IsApplication}
use Rattle.laws_of_states.specs.Replay.{GoesOn, accepted, input_at, is_made, replay, replay_statement, replay_step}
use Rattle.laws_of_states.specs.Transactions.{CanGoOn}
use Rattle.laws_of_states.specs.PointLaws.{AreSound}
use Rattle.open_transaction.specs.declared.open.OpenTransaction.{OpenTransaction}
use Rattle.open_transaction.specs.Transactions.{transaction_of}
use Rattle.application_types.specs.Fitted.{FittedUnits, IsFit}
use Rattle.serial_audit.specs.Asking.{HoldsAlone}
use Rattle.serial_audit.specs.Audit.{BeginsRightly, HasShortItems}
use Rattle.serial_audit.specs.declared.replay.Replay.{Replay}

-- what the replay looks at

abbrev pub app_of : Replay → Application
app_of p = applied p.outside.generation.now p.outside.units.now

abbrev pub tables_in : Replay → TableRows
tables_in p = p.outside.tables.now

abbrev pub kept_in : Replay → Kept
kept_in p = kept_of p.record.now

-- an application, sound tables, and a record that may determine its replay
pub record Auditable (g : Generated) (units : FittedUnits) (t : TableRows) (r : Kept) : Type 0 where
  pub fit : IsFit g units
  pub application : IsApplication (applied g units)
  pub sound : AreSound g t
  pub begins : BeginsRightly g r
  pub short : HasShortItems g r
  pub made : IsTrue (list_all is_made r.notes)

abbrev pub IsAuditable : Replay → Type 0
IsAuditable p = Auditable p.outside.generation.now p.outside.units.now (tables_in p) (kept_in p)

-- the open transaction is one of the record's service, can go on, and holds areas alone
pub record Goes (p : Replay) (l : Locks) (w : OpenTransaction) : Type 0 where
  pub own : w.id ≡ (kept_in p).service
  pub can : CanGoOn (app_of p).generation (kept_in p).service (transaction_of w)
  pub alone : HoldsAlone l (kept_in p).service (transaction_of w)
  pub nb : w.messages.nb ≡ (app_of p).generation.limits.nb

-- ---- the run

-- one statement leaves it open, and it has read no more inputs than there are; or else one of both fails
abbrev pub WentOn : Replay → (x y : Transaction) → (on : Bool) → Type 0
WentOn p x y true =
    (y ≡ replay_step (app_of p) (tables_in p) (kept_in p) x)
    × (GoesOn (replay_statement (app_of p) (tables_in p) (kept_in p) x).1 × (length y.inputs ≤ length (accepted (kept_in p))))
WentOn p x y false =
    GoesOn (replay_statement (app_of p) (tables_in p) (kept_in p) x).1
    → length (replay_step (app_of p) (tables_in p) (kept_in p) x).inputs ≤ length (accepted (kept_in p)) → ⊥

-- after PEND KP the transaction goes on with the next input; or else there is none
abbrev pub ReadInput : Replay → (x y : Transaction) → (tac : Bytes) → (read : Bool) → Type 0
ReadInput p x y tac true = (y ≡ followed_by_input (app_of p).generation x tac (input_at (kept_in p) (length x.inputs))) × (length x.inputs < length (accepted (kept_in p)))
ReadInput p x y tac false = length (accepted (kept_in p)) ≤ length x.inputs

-- so many statements leave the transaction open, and it has read no more inputs than there are
pub record Ran (p : Replay) (n : ℕ) (x : Transaction) : Type 0 where
  pub is : x ≡ replay (app_of p) (tables_in p) (kept_in p) n
  pub goes_on : (m : ℕ) → m < n → GoesOn (replay_statement (app_of p) (tables_in p) (kept_in p) (replay (app_of p) (tables_in p) (kept_in p) m)).1
  pub inputs : (m : ℕ) → m ≤ n → length (replay (app_of p) (tables_in p) (kept_in p) m).inputs ≤ length (accepted (kept_in p))
