use Rattle.abstract_monitor.specs.Endings.{is_asynchronous}
use Rattle.open_transaction.specs.Transactions.{transaction_of}
use Rattle.laws_of_runs.specs.Applied.{applied}
use Rattle.kdcs_calls.proofs.service_statement.CallStatement.{fits_then, holders_done, reads, ready_then}
use Rattle.kdcs_calls.proofs.service_statement.call.perform_call.Goals as goal

pub perform-requires-clause-short : goal.perform-requires-clause-short
perform-requires-clause-short c =
    let o = c.args.outside.now in
    reads (applied o.generation.now o.units.now) o.tables.now c.args.locks.now c.args.transaction.now.id (transaction_of c.args.transaction.now) c.args.unit.now c.args.call.now c.requires.stands c.requires.contents

pub after_call-requires-clause-ready : goal.after_call-requires-clause-ready
after_call-requires-clause-ready c =
    let o = c.args.outside.now in
    ready_then (applied o.generation.now o.units.now) o.tables.now c.args.locks.now c.args.transaction.now.id (transaction_of c.args.transaction.now) c.args.unit.now c.args.call.now c.requires.stands c.requires.contents
    c.requires.asks (transaction_of c.perform.new.open_work) c.in_ok-called.called c.in_ok-called.ensures.exact

pub after_call-requires-clause-fits : goal.after_call-requires-clause-fits
after_call-requires-clause-fits c =
    let o = c.args.outside.now in
    fits_then (applied o.generation.now o.units.now) o.tables.now c.args.locks.now c.args.transaction.now.id (transaction_of c.args.transaction.now) c.args.unit.now c.args.call.now c.requires.stands c.requires.contents
    c.requires.asks (transaction_of c.perform.new.open_work) c.in_ok-called.called c.in_ok-called.ensures.exact c.perform.new.open_work.id c.perform.ensures.id

pub returns-clause-holders : goal.returns-clause-holders
returns-clause-holders c =
    let o = c.args.outside.now in
    holders_done (applied o.generation.now o.units.now) (is_asynchronous c.perform.new.open_work.id) c.args.unit.now (transaction_of c.perform.new.open_work) c.args.locks.now c.perform.new.locks c.args.transaction.now.id
    (transaction_of c.after_call.new.transaction) c.in_ok-called.called c.after_call.result c.in_ok-called.ensures.holders c.after_call.ensures.exact
