use Rattle.std.proofs.Common.{sym, ◌∙◌}
use Rattle.open_transaction.specs.Transactions.{transaction_of}
use Rattle.laws_of_runs.specs.Applied.{applied}
use Rattle.laws_of_runs.specs.AppliedLaws.{unit_found}
use Rattle.laws_of_states.specs.ReadyLaws.{runs_are_ready}
use Rattle.kdcs_calls.specs.StatingLaws.{asks_stands, contents_fit}
use Rattle.kdcs_calls.proofs.service_statement.Stated.{asks_exact, asks_waits, ends_exact, ends_holders, plain_exact, plain_holders}
use Rattle.kdcs_calls.proofs.service_statement.statement.next_statement.Goals as goal

pub step_unit-requires-clause-ready : goal.step_unit-requires-clause-ready
step_unit-requires-clause-ready c =
    let o = c.args.outside.now in
    runs_are_ready (applied o.generation.now o.units.now) c.args.transaction.now.id (transaction_of c.args.transaction.now) c.args.unit.now
    (record { application = c.requires.application; can = c.requires.can; in_unit = sym (c.requires.unit ∙ unit_found o.generation.now o.units.now c.args.transaction.now.current c.requires.fit) })

pub perform_call-happened-requires-clause-stands : goal.perform_call-happened-requires-clause-stands
perform_call-happened-requires-clause-stands c =
    let o = c.args.outside.now in
    asks_stands c.args.transaction.now c.step_unit.new.transaction c.in_ok-step_unit.field-0 c.in_ok-step_unit.ensures.leaves (applied o.generation.now o.units.now) c.args.unit.now c.in-Asks.call c.in-Asks.is
    (record { application = c.requires.application; can = c.requires.can; in_unit = sym (c.requires.unit ∙ unit_found o.generation.now o.units.now c.args.transaction.now.current c.requires.fit) })

pub perform_call-happened-requires-clause-contents : goal.perform_call-happened-requires-clause-contents
perform_call-happened-requires-clause-contents c = contents_fit c.args.outside.now.generation.now c.args.outside.now.tables.now c.args.transaction.now.id c.requires.sound

pub returns-in-Plain-clause-exact : goal.returns-in-Plain-clause-exact
returns-in-Plain-clause-exact c =
    let o = c.args.outside.now in
    plain_exact (applied o.generation.now o.units.now) o.tables.now c.args.locks.now c.args.transaction.now c.step_unit.new.transaction c.args.unit.now (c.requires.unit ∙ unit_found o.generation.now o.units.now c.args.transaction.now.current c.requires.fit) c.in_ok-step_unit.field-0
    c.in_ok-step_unit.ensures.meaning c.in_ok-step_unit.ensures.leaves c.in-Plain.is

pub returns-in-Plain-clause-holders : goal.returns-in-Plain-clause-holders
returns-in-Plain-clause-holders c =
    let o = c.args.outside.now in
    plain_holders (applied o.generation.now o.units.now) o.tables.now c.args.locks.now c.args.transaction.now c.step_unit.new.transaction c.args.unit.now (c.requires.unit ∙ unit_found o.generation.now o.units.now c.args.transaction.now.current c.requires.fit) c.in_ok-step_unit.field-0
    c.in_ok-step_unit.ensures.meaning c.in_ok-step_unit.ensures.leaves c.in-Plain.is c.requires.holds

pub returns-in-Asks-clause-exact : goal.returns-in-Asks-clause-exact
returns-in-Asks-clause-exact c =
    let o = c.args.outside.now in
    asks_exact (applied o.generation.now o.units.now) o.tables.now c.args.locks.now c.args.transaction.now c.step_unit.new.transaction c.args.unit.now (c.requires.unit ∙ unit_found o.generation.now o.units.now c.args.transaction.now.current c.requires.fit) c.in_ok-step_unit.field-0
    c.in_ok-step_unit.ensures.meaning c.in_ok-step_unit.ensures.leaves c.in-Asks.call c.in-Asks.is (transaction_of c.perform_call-happened.new.transaction) c.perform_call-happened.result c.perform_call-happened.ensures.exact

pub returns-in-Asks-clause-waits : goal.returns-in-Asks-clause-waits
returns-in-Asks-clause-waits c =
    let o = c.args.outside.now in
    asks_waits (applied o.generation.now o.units.now) o.tables.now c.args.locks.now c.args.transaction.now c.step_unit.new.transaction c.args.unit.now (c.requires.unit ∙ unit_found o.generation.now o.units.now c.args.transaction.now.current c.requires.fit) c.in_ok-step_unit.field-0
    c.in_ok-step_unit.ensures.meaning c.in_ok-step_unit.ensures.leaves c.in-Asks.call c.in-Asks.is c.perform_call-happened.new.locks c.perform_call-happened.result c.perform_call-happened.ensures.waits

pub returns-in-Ends-clause-exact : goal.returns-in-Ends-clause-exact
returns-in-Ends-clause-exact c =
    let o = c.args.outside.now in
    ends_exact (applied o.generation.now o.units.now) o.tables.now c.args.locks.now c.args.transaction.now c.step_unit.new.transaction c.args.unit.now (c.requires.unit ∙ unit_found o.generation.now o.units.now c.args.transaction.now.current c.requires.fit) c.in_ok-step_unit.field-0
    c.in_ok-step_unit.ensures.meaning c.in_ok-step_unit.ensures.leaves c.in-Ends.cause c.in-Ends.is

pub returns-in-Ends-clause-holders : goal.returns-in-Ends-clause-holders
returns-in-Ends-clause-holders c =
    let o = c.args.outside.now in
    ends_holders (applied o.generation.now o.units.now) o.tables.now c.args.locks.now c.args.transaction.now c.step_unit.new.transaction c.args.unit.now (c.requires.unit ∙ unit_found o.generation.now o.units.now c.args.transaction.now.current c.requires.fit) c.in_ok-step_unit.field-0
    c.in_ok-step_unit.ensures.meaning c.in_ok-step_unit.ensures.leaves c.in-Ends.cause c.in-Ends.is c.requires.holds
