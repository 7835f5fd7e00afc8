use Rattle.std.proofs.Common.{arith, ap}
use Rattle.open_transaction.specs.Transactions.{transaction_of}
use Rattle.abstract_monitor.specs.State.{OpenTransaction as Transaction}
use Rattle.serial_audit.proofs.Goings.{at_once, held_counted, held_goes, held_kind, held_still, held_went}
use Rattle.serial_audit.proofs.replay.go_on.Goals as goal

pub read_input-requires-clause-statements : goal.read_input-requires-clause-statements
read_input-requires-clause-statements c =
    let same = ap (λ (x : Transaction). x.statements) (held_still c.args.replay.now (transaction_of c.args.transaction.now) (transaction_of c.next_statement.new.transaction) c.in_ok-next_statement.field-0 c.in_ok-next_statement.ensures.exact c.in-Held.tac c.in-Held.is) in
    omega (arith, same, c.requires.statements)

pub returns-in-Went-clause-went : goal.returns-in-Went-clause-went
returns-in-Went-clause-went c = at_once c.args.replay.now (transaction_of c.args.transaction.now) (transaction_of c.next_statement.new.transaction) c.in_ok-next_statement.field-0 c.in_ok-next_statement.ensures.exact c.in-Went.is c.has_read.result c.has_read.ensures

pub returns-in-Held-clause-went : goal.returns-in-Held-clause-went
returns-in-Held-clause-went c = held_went c.args.replay.now (transaction_of c.args.transaction.now) (transaction_of c.next_statement.new.transaction) c.in_ok-next_statement.field-0 c.in_ok-next_statement.ensures.exact c.in-Held.tac c.in-Held.is (transaction_of c.read_input.new.transaction) c.read_input.result c.read_input.ensures.read

pub returns-in-Held-clause-goes : goal.returns-in-Held-clause-goes
returns-in-Held-clause-goes c =
    held_goes c.args.replay.now c.next_statement.new.transaction c.read_input.new.transaction c.in-Held.tac c.read_input.result c.read_input.ensures.read c.next_statement.new.locks c.requires.auditable c.in_ok-next_statement.ensures.goes
    (held_kind c.args.replay.now c.args.transaction.now.id c.in_ok-next_statement.field-0 c.in-Held.tac c.requires.goes.own c.in-Held.is c.in_ok-next_statement.ensures.fits) c.read_input.ensures.id c.read_input.ensures.nb

pub returns-in-Held-clause-counted : goal.returns-in-Held-clause-counted
returns-in-Held-clause-counted c = held_counted c.args.replay.now c.next_statement.new.transaction c.read_input.new.transaction c.in-Held.tac c.read_input.result c.read_input.ensures.read c.args.transaction.now (held_still c.args.replay.now (transaction_of c.args.transaction.now) (transaction_of c.next_statement.new.transaction) c.in_ok-next_statement.field-0 c.in_ok-next_statement.ensures.exact c.in-Held.tac c.in-Held.is)
