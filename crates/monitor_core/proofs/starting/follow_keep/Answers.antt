use Rattle.std.specs.Prelude.{is_some}
use Rattle.std.proofs.Common.{ap, ◌∙◌}
use Rattle.std.proofs.lemmas.Result.{on_ok_weaker}
use Rattle.kdcs_types.specs.declared.key.ServiceId.TheVariants.{Dialogue}
use Rattle.service_ends.specs.KeptLaws.{none_found}
use Rattle.service_ends.specs.Standing.{state_of}
use Rattle.monitor_core.proofs.Starts.{can_go_on, fits_count, gone_indexed, gone_open, gone_ready, has_nb, holds_just, no_other, no_point, still_fits}
use Rattle.monitor_core.proofs.starting.follow_keep.Goals as goal

pub returns-in_default-clause-state : goal.returns-in_default-clause-state
returns-in_default-clause-state c = λ x e. absurd (none_found c.args.parts.now (Dialogue c.args.user.now) c.in_default.ensures.value (ap is_some e))

pub do_statement-requires-clause-can : goal.do_statement-requires-clause-can
do_statement-requires-clause-can c = rw c.deref_mut.ensures.value (can_go_on c.args.parts.now c.args.user.now c.in-Some.transaction.now c.requires.whole c.in-Some.ensures.value)

pub do_statement-requires-clause-holds : goal.do_statement-requires-clause-holds
do_statement-requires-clause-holds c = rw c.deref_mut.ensures.value (holds_just c.args.parts.now c.args.user.now c.in-Some.transaction.now c.requires.whole c.in-Some.ensures.value)

pub do_statement-requires-clause-nb : goal.do_statement-requires-clause-nb
do_statement-requires-clause-nb c = rw c.deref_mut.ensures.value (has_nb c.args.parts.now c.args.user.now c.in-Some.transaction.now c.requires.whole c.in-Some.ensures.value)

pub do_statement-requires-clause-statements : goal.do_statement-requires-clause-statements
do_statement-requires-clause-statements c = rw c.deref_mut.ensures.value (fits_count c.args.parts.now c.args.user.now c.in-Some.transaction.now c.requires.whole c.in-Some.ensures.value c.requires.ahead c.requires.steps)

pub follow-requires : goal.follow-requires
follow-requires c = rw c.deref_mut-in-Held.ensures.value (
    still_fits c.args.parts.now c.args.user.now c.in-Some.transaction.now c.requires.whole c.in-Some.ensures.value
    c.requires.rests _ (record c.in-Some.transaction.now { value = c.do_statement.new.transaction }) c.in_ok-tac.field-0 (rw c.deref_mut.ensures.value at c.in_ok-tac.ensures.exact) c.requires.ahead c.requires.steps)

pub make_ready-requires-clause-indexed : goal.make_ready-requires-clause-indexed
make_ready-requires-clause-indexed c =
    gone_indexed c.args.parts.now c.args.user.now c.in-Some.transaction.now c.requires.whole c.in-Some.ensures.value
    c.requires.rests _ (record c.in-Some.transaction.now { value = c.do_statement.new.transaction }) c.in_ok-tac.field-0 (rw c.deref_mut.ensures.value at c.in_ok-tac.ensures.exact)
    c.in-Held.tac c.args.text c.in-Held.is (record c.in-Some.transaction.now { value = c.follow.new.self }) (rw c.deref_mut-in-Held.ensures.value at c.in_ok-follow-in-Held.ensures.ok) c.do_statement.new.locks (rw c.deref_mut.ensures.value at c.in_ok-tac.ensures.waits)
    c.requires.ahead (rw c.deref_mut.ensures.value at c.in_ok-tac.ensures.holders) (rw c.deref_mut-in-Held.ensures.value at c.in_ok-follow-in-Held.ensures.id) (rw c.deref_mut.ensures.value at c.in_ok-tac.ensures.id)
    ((rw c.deref_mut-in-Held.ensures.value at c.in_ok-follow-in-Held.ensures.nb) ((rw c.deref_mut.ensures.value at c.in_ok-tac.ensures.nb) ∙ has_nb c.args.parts.now c.args.user.now c.in-Some.transaction.now c.requires.whole c.in-Some.ensures.value))

pub make_ready-requires-clause-is_open : goal.make_ready-requires-clause-is_open
make_ready-requires-clause-is_open c =
    gone_open c.args.parts.now c.args.user.now c.in-Some.transaction.now c.requires.whole c.in-Some.ensures.value
    c.requires.rests _ (record c.in-Some.transaction.now { value = c.do_statement.new.transaction }) c.in_ok-tac.field-0 (rw c.deref_mut.ensures.value at c.in_ok-tac.ensures.exact)
    c.in-Held.tac c.args.text c.in-Held.is (record c.in-Some.transaction.now { value = c.follow.new.self }) (rw c.deref_mut-in-Held.ensures.value at c.in_ok-follow-in-Held.ensures.ok) c.do_statement.new.locks (rw c.deref_mut.ensures.value at c.in_ok-tac.ensures.waits)

pub returns-in_ok-follow-in-Held-clause-state : goal.returns-in_ok-follow-in-Held-clause-state
returns-in_ok-follow-in-Held-clause-state c =
    on_ok_weaker c.make_ready.result
    (gone_ready c.args.parts.now c.args.user.now c.in-Some.transaction.now c.requires.whole c.in-Some.ensures.value
    c.requires.rests _ (record c.in-Some.transaction.now { value = c.do_statement.new.transaction }) c.in_ok-tac.field-0 (rw c.deref_mut.ensures.value at c.in_ok-tac.ensures.exact)
    c.in-Held.tac c.args.text c.in-Held.is (record c.in-Some.transaction.now { value = c.follow.new.self }) (rw c.deref_mut-in-Held.ensures.value at c.in_ok-follow-in-Held.ensures.ok) c.do_statement.new.locks (rw c.deref_mut.ensures.value at c.in_ok-tac.ensures.waits) (state_of c.make_ready.new.self))
    c.make_ready.ensures.state

pub returns-in-Settles-clause-state : goal.returns-in-Settles-clause-state
returns-in-Settles-clause-state c =
    absurd (no_point c.args.parts.now c.args.user.now c.in-Some.transaction.now c.requires.whole c.in-Some.ensures.value
    c.requires.rests _ (record c.in-Some.transaction.now { value = c.do_statement.new.transaction }) c.in_ok-tac.field-0 (rw c.deref_mut.ensures.value at c.in_ok-tac.ensures.exact) c.in-Settles._outcome c.in-Settles.is)

pub returns-in-Settles-clause-indexed : goal.returns-in-Settles-clause-indexed
returns-in-Settles-clause-indexed c =
    absurd (no_point c.args.parts.now c.args.user.now c.in-Some.transaction.now c.requires.whole c.in-Some.ensures.value
    c.requires.rests _ (record c.in-Some.transaction.now { value = c.do_statement.new.transaction }) c.in_ok-tac.field-0 (rw c.deref_mut.ensures.value at c.in_ok-tac.ensures.exact) c.in-Settles._outcome c.in-Settles.is)

pub returns-in_default-2 : goal.returns-in_default-2
returns-in_default-2 c =
    absurd (no_other c.args.parts.now c.args.user.now c.in-Some.transaction.now c.requires.whole c.in-Some.ensures.value
    c.requires.rests _ (record c.in-Some.transaction.now { value = c.do_statement.new.transaction }) c.in_ok-tac.field-0 (rw c.deref_mut.ensures.value at c.in_ok-tac.ensures.exact) c.in_default-2.not-Held)
