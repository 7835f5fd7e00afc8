use Rattle.open_transaction.specs.Transactions.{transaction_of}
use Rattle.kdcs_calls.proofs.CallHolders.{first_performed, later_performed, still_holds}
use Rattle.kdcs_calls.proofs.CallWaits.{first_waits, later_waited}
use Rattle.kdcs_calls.specs.HoldingLaws.{match_holds}
use Rattle.kdcs_calls.proofs.calls.perform.Goals as goal

pub returns-then-not-open_work-clause-holders : goal.returns-then-not-open_work-clause-holders
returns-then-not-open_work-clause-holders c =
    first_performed c.args.generation.now c.args.tables.now c.args.locks.now c.args.open_work.now.id (transaction_of c.args.open_work.now) c.requires.holds c.args.call.now _ _ c.first_call.ensures.exact

pub returns-then-not-open_work-clause-holds : goal.returns-then-not-open_work-clause-holds
returns-then-not-open_work-clause-holds c =
    match_holds c.args.locks.now c.args.locks.now c.args.open_work.now.id (transaction_of c.first_call.new.transaction)
    (first_performed c.args.generation.now c.args.tables.now c.args.locks.now c.args.open_work.now.id (transaction_of c.args.open_work.now) c.requires.holds c.args.call.now _ _ c.first_call.ensures.exact)

pub returns-clause-holders : goal.returns-clause-holders
returns-clause-holders c =
    later_performed c.args.generation.now c.args.tables.now c.args.locks.now c.args.open_work.now.id (transaction_of c.args.open_work.now) c.requires.holds c.args.call.now _ _ _ c.later_call.ensures.exact c.later_call.ensures.locks

pub returns-clause-holds : goal.returns-clause-holds
returns-clause-holds c =
    still_holds c.args.generation.now c.args.tables.now c.args.locks.now c.args.open_work.now.id (transaction_of c.args.open_work.now) c.requires.holds c.later_call.new.locks (transaction_of c.later_call.new.transaction) c.later_call.result
    (later_performed c.args.generation.now c.args.tables.now c.args.locks.now c.args.open_work.now.id (transaction_of c.args.open_work.now) c.requires.holds c.args.call.now _ _ _ c.later_call.ensures.exact c.later_call.ensures.locks)

pub returns-then-not-open_work-clause-waits : goal.returns-then-not-open_work-clause-waits
returns-then-not-open_work-clause-waits c =
    first_waits c.args.locks.now c.args.tables.now c.args.open_work.now.id (transaction_of c.args.open_work.now) c.args.call.now _ _ c.first_call.ensures.exact

pub returns-clause-waits : goal.returns-clause-waits
returns-clause-waits c =
    later_waited c.args.generation.now c.args.tables.now c.args.locks.now c.args.open_work.now.id (transaction_of c.args.open_work.now) c.requires.holds c.args.call.now _ _ _ c.later_call.ensures.exact c.later_call.ensures.locks
