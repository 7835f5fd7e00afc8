use Rattle.std.specs.Prelude.{is_some}
use Rattle.std.proofs.Common.{ap, ◌∙◌}
use Rattle.abstract_monitor.specs.Picks.{class_of}
use Rattle.open_transaction.specs.declared.open.OpenTransaction.{OpenTransaction}
use Rattle.open_transaction.specs.Transactions.{boxed_transaction}
use Rattle.service_ends.specs.KeptLaws.{none_found}
use Rattle.monitor_core.specs.StatedLaws.{can_go_on, fits_count, holds_just, indexed_of, indexed_with, is_there, owned, state_with, then_exact, then_for, then_indexed}
use Rattle.monitor_core.specs.SteppingLaws.{is_seated, seated_class, stepped}
use Rattle.monitor_core.specs.WholeLaws.{open_there}
use Rattle.monitor_core.proofs.statement.next_statement.Goals as goal

pub unreachable-requires : goal.unreachable-requires
unreachable-requires c =
    none_found c.args.parts.now c.args.id.now c.in_default.ensures.value (ap is_some (open_there c.args.parts.now c.args.task c.args.id.now c.requires.whole c.requires.held).1)

pub do_statement-requires-clause-fit : goal.do_statement-requires-clause-fit
do_statement-requires-clause-fit c = rw c.run.ensures c.requires.whole.fit

pub do_statement-requires-clause-application : goal.do_statement-requires-clause-application
do_statement-requires-clause-application c = rw c.run.ensures c.requires.whole.application

pub do_statement-requires-clause-can : goal.do_statement-requires-clause-can
do_statement-requires-clause-can c = rw c.deref_mut.ensures.value (can_go_on c.args.parts.now c.args.id.now c.in-Some.transaction.now c.requires.whole.indexed c.requires.whole.facts c.in-Some.ensures.value)

pub do_statement-requires-clause-holds : goal.do_statement-requires-clause-holds
do_statement-requires-clause-holds c = rw c.deref_mut.ensures.value (holds_just c.args.parts.now c.args.id.now c.in-Some.transaction.now c.requires.whole.indexed c.requires.whole.facts c.in-Some.ensures.value)

pub do_statement-requires-clause-nb : goal.do_statement-requires-clause-nb
do_statement-requires-clause-nb c = rw c.deref_mut.ensures.value ((owned c.args.parts.now c.args.id.now c.in-Some.transaction.now c.requires.whole.indexed c.requires.whole.facts c.in-Some.ensures.value).nb)

pub do_statement-requires-clause-statements : goal.do_statement-requires-clause-statements
do_statement-requires-clause-statements c =
    rw c.deref_mut.ensures.value (fits_count c.args.parts.now c.args.id.now c.in-Some.transaction.now c.requires.whole.indexed c.requires.whole.facts c.in-Some.ensures.value c.requires.steps)

pub keep_class-requires-clause-held : goal.keep_class-requires-clause-held
keep_class-requires-clause-held c = is_seated c.args.parts.now.scheduler.places _ c.args.id.now c.requires.held

pub keep_class-requires-clause-class : goal.keep_class-requires-clause-class
keep_class-requires-clause-class c =
    rw c.deref.ensures
    (seated_class c.args.parts.now c.args.task c.args.id.now (boxed_transaction c.in-Some.transaction.now) c.requires.whole.indexed c.requires.held
    (is_there c.args.parts.now c.args.id.now c.in-Some.transaction.now c.requires.whole.indexed c.requires.whole.facts c.in-Some.ensures.value))

pub returns-clause-exact : goal.returns-clause-exact
returns-clause-exact c =
    then_exact c.args.parts.now c.args.task c.args.id.now c.in-Some.transaction.now (record c.in-Some.transaction.now { value = c.do_statement.new.transaction }) c.requires.whole.indexed c.requires.whole.facts c.requires.held c.in-Some.ensures.value
    c.do_statement.new.locks c.in_ok-happened.happened (rw (c.deref_mut.ensures.value, c.run.ensures) at c.in_ok-happened.ensures.exact)

pub returns-clause-state : goal.returns-clause-state
returns-clause-state c = λ x e.
    let p = c.args.parts.now in
    let after = record c.in-Some.transaction.now { value = c.do_statement.new.transaction } in
    let class = class_of p.generation c.deref-2.result.now.current in
    state_with (record (stepped p c.args.task c.args.id.now after c.do_statement.new.locks class) { units = c.run.new.self }) c.keep_class.new.scheduler c.keep_class.ensures
    ∙ then_for p c.args.task c.args.id.now c.in-Some.transaction.now after c.requires.whole.indexed c.requires.whole.facts c.requires.held c.in-Some.ensures.value
    c.do_statement.new.locks c.in_ok-happened.happened (rw (c.deref_mut.ensures.value, c.run.ensures) at c.in_ok-happened.ensures.exact) class (rw (c.deref_mut.ensures.value, c.run.ensures) at c.in_ok-happened.ensures.waits) x e

pub returns-clause-indexed : goal.returns-clause-indexed
returns-clause-indexed c =
    let p = c.args.parts.now in
    let after = record c.in-Some.transaction.now { value = c.do_statement.new.transaction } in
    let class = class_of p.generation c.deref-2.result.now.current in
    let parts = stepped p c.args.task c.args.id.now after c.do_statement.new.locks class in
    indexed_with (record parts { units = c.run.new.self }) c.keep_class.new.scheduler c.keep_class.ensures
    (
    indexed_of parts c.run.new.self c.run.ensures
    (then_indexed p c.args.task c.args.id.now c.in-Some.transaction.now after c.requires.whole.indexed c.requires.whole.facts c.requires.held c.in-Some.ensures.value
    c.do_statement.new.locks c.in_ok-happened.happened (rw (c.deref_mut.ensures.value, c.run.ensures) at c.in_ok-happened.ensures.exact) class (ap (λ (t : OpenTransaction). class_of p.generation t.current) c.deref-2.ensures)
    (rw c.deref_mut.ensures.value at c.in_ok-happened.ensures.holders) (rw c.deref_mut.ensures.value at c.in_ok-happened.ensures.id) (rw c.deref_mut.ensures.value at c.in_ok-happened.ensures.nb) (rw c.deref_mut.ensures.value at c.in_ok-happened.ensures.counted))
    )
