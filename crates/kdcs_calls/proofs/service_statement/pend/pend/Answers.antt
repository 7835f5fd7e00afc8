use Rattle.abstract_monitor.specs.Endings.{is_asynchronous}
use Rattle.open_transaction.specs.Transactions.{transaction_of}
use Rattle.kdcs_calls.proofs.service_statement.CallStatement.{followed_counts}
use Rattle.kdcs_calls.proofs.service_statement.pend.pend.Goals as goal

pub returns-in_ok-follow-in-Stay-clause-counted : goal.returns-in_ok-follow-in-Stay-clause-counted
returns-in_ok-follow-in-Stay-clause-counted c =
    followed_counts c.args.outside.now.generation.now (is_asynchronous c.args.transaction.now.id) (transaction_of c.args.transaction.now) (transaction_of c.follow.new.self) c.in-Stay.tac c.in_ok-follow-in-Stay.ensures.ok

pub returns-in_ok-follow-in-Queue-clause-counted : goal.returns-in_ok-follow-in-Queue-clause-counted
returns-in_ok-follow-in-Queue-clause-counted c =
    followed_counts c.args.outside.now.generation.now (is_asynchronous c.args.transaction.now.id) (transaction_of c.args.transaction.now) (transaction_of c.follow-in-Queue.new.self) c.in-Queue.tac c.in_ok-follow-in-Queue.ensures.ok
