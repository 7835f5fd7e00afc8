-- What a synchronisation point answers.
use Rattle.std.specs.Prelude.{Option, Some, None}
use Rattle.kdcs_types.specs.declared.call.Cause.{Cause}
use Rattle.kdcs_types.specs.declared.service.Ending.TheVariants as ending
use Rattle.kdcs_types.specs.Difference.{difference}
use Rattle.kdcs_types.specs.Tables.{TableRows}
use Rattle.application_types.specs.Generation.{Generated}
use Rattle.abstract_monitor.specs.declared.outcome.Outcome.{Outcome}
use Rattle.abstract_monitor.specs.Endings.{durable, refusal, row_after, synchronised}
use Rattle.abstract_monitor.specs.Statements.{kept_record}
use Rattle.open_transaction.specs.declared.open.OpenTransaction.{OpenTransaction}
use Rattle.open_transaction.specs.Transactions.{Boxed, transaction_of}
use Rattle.sync_points.specs.declared.points.Point.{Point}
use Rattle.sync_points.specs.declared.points.Point.TheVariants.{Passed}
use Rattle.sync_points.specs.declared.points.Point.TheVariants as point
use Rattle.sync_points.specs.declared.points.SettleAnswer.{SettleAnswer}
use Rattle.sync_points.specs.declared.points.SettleAnswer.TheVariants.{Refused, Synced}

-- refused for a cause, or the difference of the durable tables and the service's row
abbrev pub point_by : Generated → TableRows → OpenTransaction → Outcome → Option Cause → Point
point_by g t w o None = Passed (difference (durable g t) (durable g (synchronised g t w.id (transaction_of w) o))) (row_after g w.id (transaction_of w) o)
point_by g t w o (Some cause) = point.Refused cause

-- refused for a cause, with the transaction as it was; or the difference of the durable tables, the service's row, and the kept record
abbrev pub answer_by : Generated → TableRows → Boxed → Outcome → Option Cause → SettleAnswer
answer_by g t b o None = let w = b.value in
    Synced (difference (durable g t) (durable g (synchronised g t w.id (transaction_of w) o))) (row_after g w.id (transaction_of w) o) (kept_record w.id (transaction_of w) ending.Synced)
answer_by g t b o (Some cause) = Refused cause b

-- why a point is refused, if it is
abbrev pub refused_by : Generated → TableRows → OpenTransaction → Outcome → Option Cause
refused_by g t w o = refusal g (durable g (synchronised g t w.id (transaction_of w) o))
