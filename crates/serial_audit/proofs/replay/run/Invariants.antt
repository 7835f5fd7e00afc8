use Rattle.std.specs.Prelude.{◌≤◌}
use Rattle.open_transaction.specs.Transactions.{transaction_of}
use Rattle.serial_audit.specs.Replaying.{Goes, Ran}
use Rattle.serial_audit.proofs.replay.run.Given as goal

abbrev pub invariant-loop-done : goal.invariant-loop-done
invariant-loop-done l = record {
  ran : Ran l.replay l._done (transaction_of l.transaction);
  goes : Goes l.replay l.locks l.transaction;
  counted : l.transaction.statements ≤ l._done;
}
