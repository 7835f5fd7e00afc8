use Rattle.std.proofs.Common.{◌∙◌}
use Rattle.abstract_monitor.specs.declared.answer.Happened.TheVariants.{Went}
use Rattle.open_transaction.specs.Transactions.{transaction_of}
use Rattle.laws_of_runs.specs.AppliedLaws.{unit_found}
use Rattle.kdcs_calls.specs.StatingLaws.{asks_stands}
use Rattle.serial_audit.specs.Replaying.{app_of, kept_in, tables_in}
use Rattle.serial_audit.proofs.Doing.{alone}
use Rattle.serial_audit.proofs.Goings.{fits_after, goes_after, goes_after_call, stands}
use Rattle.serial_audit.proofs.Locks.{alone_same}
use Rattle.serial_audit.proofs.Stated.{call_stated, end_stated, plain_stated, plain_touches}
use Rattle.serial_audit.proofs.statement.next_statement.Goals as goal

pub do_call-happened-requires-clause-stands : goal.do_call-happened-requires-clause-stands
do_call-happened-requires-clause-stands c = asks_stands c.args.transaction.now c.step_unit.new.transaction c.in_ok-step_unit.field-0 c.in_ok-step_unit.ensures.leaves (app_of c.args.replay.now) c.in-Some.unit.now c.in-Asks.call c.in-Asks.is (stands c.args.replay.now c.args.locks.now c.args.transaction.now c.requires.auditable c.requires.goes c.in-Some.unit.now (c.in-Some.ensures.unit ∙ unit_found c.args.replay.now.outside.generation.now c.args.replay.now.outside.units.now c.args.transaction.now.current c.requires.auditable.fit))

pub returns-in-Plain-clause-exact : goal.returns-in-Plain-clause-exact
returns-in-Plain-clause-exact c = plain_stated (app_of c.args.replay.now) (tables_in c.args.replay.now) (kept_in c.args.replay.now) c.args.transaction.now c.step_unit.new.transaction c.in-Some.unit.now (c.in-Some.ensures.unit ∙ unit_found c.args.replay.now.outside.generation.now c.args.replay.now.outside.units.now c.args.transaction.now.current c.requires.auditable.fit) c.in_ok-step_unit.field-0 c.in_ok-step_unit.ensures.meaning c.in_ok-step_unit.ensures.leaves c.in-Plain.is

pub returns-in-Plain-clause-goes : goal.returns-in-Plain-clause-goes
returns-in-Plain-clause-goes c =
    goes_after c.args.replay.now c.args.locks.now c.args.transaction.now c.requires.auditable c.requires.goes c.args.locks.now c.step_unit.new.transaction Went
    (plain_stated (app_of c.args.replay.now) (tables_in c.args.replay.now) (kept_in c.args.replay.now) c.args.transaction.now c.step_unit.new.transaction c.in-Some.unit.now (c.in-Some.ensures.unit ∙ unit_found c.args.replay.now.outside.generation.now c.args.replay.now.outside.units.now c.args.transaction.now.current c.requires.auditable.fit) c.in_ok-step_unit.field-0 c.in_ok-step_unit.ensures.meaning c.in_ok-step_unit.ensures.leaves c.in-Plain.is)
    c.in_ok-step_unit.ensures.id c.in_ok-step_unit.ensures.nb
    (alone_same c.args.locks.now c.args.transaction.now.id (transaction_of c.args.transaction.now) (alone c.args.replay.now c.args.locks.now c.args.transaction.now c.requires.goes) (transaction_of c.step_unit.new.transaction)
    (plain_touches (app_of c.args.replay.now) (tables_in c.args.replay.now) (kept_in c.args.replay.now) c.args.transaction.now c.step_unit.new.transaction c.in-Some.unit.now (c.in-Some.ensures.unit ∙ unit_found c.args.replay.now.outside.generation.now c.args.replay.now.outside.units.now c.args.transaction.now.current c.requires.auditable.fit) c.in_ok-step_unit.field-0 c.in_ok-step_unit.ensures.meaning c.in_ok-step_unit.ensures.leaves c.in-Plain.is))

pub returns-in-Asks-clause-exact : goal.returns-in-Asks-clause-exact
returns-in-Asks-clause-exact c = call_stated (app_of c.args.replay.now) (tables_in c.args.replay.now) (kept_in c.args.replay.now) c.args.transaction.now c.step_unit.new.transaction c.in-Some.unit.now (c.in-Some.ensures.unit ∙ unit_found c.args.replay.now.outside.generation.now c.args.replay.now.outside.units.now c.args.transaction.now.current c.requires.auditable.fit) c.in_ok-step_unit.field-0 c.in_ok-step_unit.ensures.meaning c.in_ok-step_unit.ensures.leaves c.in-Asks.call c.in-Asks.is (transaction_of c.do_call-happened.new.transaction) c.do_call-happened.result c.do_call-happened.ensures.exact

pub returns-in-Asks-clause-goes : goal.returns-in-Asks-clause-goes
returns-in-Asks-clause-goes c =
    goes_after_call c.args.replay.now c.args.locks.now c.args.transaction.now c.requires.auditable c.requires.goes c.do_call-happened.new.locks c.step_unit.new.transaction c.do_call-happened.new.transaction c.in_ok-step_unit.ensures.id c.do_call-happened.result
    (call_stated (app_of c.args.replay.now) (tables_in c.args.replay.now) (kept_in c.args.replay.now) c.args.transaction.now c.step_unit.new.transaction c.in-Some.unit.now (c.in-Some.ensures.unit ∙ unit_found c.args.replay.now.outside.generation.now c.args.replay.now.outside.units.now c.args.transaction.now.current c.requires.auditable.fit) c.in_ok-step_unit.field-0 c.in_ok-step_unit.ensures.meaning c.in_ok-step_unit.ensures.leaves c.in-Asks.call c.in-Asks.is (transaction_of c.do_call-happened.new.transaction) c.do_call-happened.result c.do_call-happened.ensures.exact)
    c.do_call-happened.ensures.id (c.do_call-happened.ensures.nb ∙ c.in_ok-step_unit.ensures.nb) c.do_call-happened.ensures.alone

pub returns-in-Asks-clause-fits : goal.returns-in-Asks-clause-fits
returns-in-Asks-clause-fits c =
    fits_after c.args.replay.now c.args.locks.now c.args.transaction.now c.requires.auditable c.requires.goes (transaction_of c.do_call-happened.new.transaction) c.do_call-happened.result
    (call_stated (app_of c.args.replay.now) (tables_in c.args.replay.now) (kept_in c.args.replay.now) c.args.transaction.now c.step_unit.new.transaction c.in-Some.unit.now (c.in-Some.ensures.unit ∙ unit_found c.args.replay.now.outside.generation.now c.args.replay.now.outside.units.now c.args.transaction.now.current c.requires.auditable.fit) c.in_ok-step_unit.field-0 c.in_ok-step_unit.ensures.meaning c.in_ok-step_unit.ensures.leaves c.in-Asks.call c.in-Asks.is (transaction_of c.do_call-happened.new.transaction) c.do_call-happened.result c.do_call-happened.ensures.exact)

pub returns-in-Ends-clause-exact : goal.returns-in-Ends-clause-exact
returns-in-Ends-clause-exact c = end_stated (app_of c.args.replay.now) (tables_in c.args.replay.now) (kept_in c.args.replay.now) c.args.transaction.now c.step_unit.new.transaction c.in-Some.unit.now (c.in-Some.ensures.unit ∙ unit_found c.args.replay.now.outside.generation.now c.args.replay.now.outside.units.now c.args.transaction.now.current c.requires.auditable.fit) c.in_ok-step_unit.field-0 c.in_ok-step_unit.ensures.meaning c.in_ok-step_unit.ensures.leaves c.in-Ends.cause c.in-Ends.is
