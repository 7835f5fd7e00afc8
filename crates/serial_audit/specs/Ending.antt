-- How the transaction of a record ends in the code.
use Rattle.std.specs.Prelude.{◌≡◌, Option, Some, None}
use Rattle.kdcs_types.specs.Difference.{difference}
use Rattle.abstract_monitor.specs.Endings.{durable}
use Rattle.abstract_monitor.specs.State.{OpenTransaction as Transaction}
use Rattle.laws_of_states.specs.Replay.{Ended as AtEnd, ended_by, replay_statement}
use Rattle.laws_of_states.specs.PointLaws.{AreSound, IsSoundlyOpen}
use Rattle.open_transaction.specs.Transactions.{Boxed, boxed_transaction}
use Rattle.serial_audit.specs.Replaying.{app_of, kept_in, tables_in}
use Rattle.serial_audit.specs.declared.ending.Ended.{Ended}
use Rattle.serial_audit.specs.declared.replay.Replay.{Replay}

-- a transaction of the record's service, which can go on and began with its row, over sound tables
pub record StandsAt (p : Replay) (b : Boxed) : Type 0 where
  pub own : b.value.id ≡ (kept_in p).service
  pub stands : IsSoundlyOpen (app_of p).generation (tables_in p) (kept_in p).service (boxed_transaction b)

-- the changes are those of the durable tables at this end, which leaves sound ones
pub record AreOf (p : Replay) (e : AtEnd) (ended : Ended) : Type 0 where
  pub changes : ended.changes ≡ difference (durable (app_of p).generation (tables_in p)) (durable (app_of p).generation e.tables)
  pub ending : ended.ending ≡ e.ending
  pub sound : AreSound (app_of p).generation e.tables

abbrev pub ChangesAre : Replay → Option AtEnd → Ended → Type 0
ChangesAre p None ended = ⊥
ChangesAre p (Some e) ended = AreOf p e ended

-- how the next statement ends the transaction, if it does
abbrev pub ended_from : Replay → Transaction → Option AtEnd
ended_from p x = ended_by (app_of p) (tables_in p) (kept_in p).service x (replay_statement (app_of p) (tables_in p) (kept_in p) x).1
