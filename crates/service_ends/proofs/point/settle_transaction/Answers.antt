use Rattle.std.proofs.Common.{ap, subst, sym, ◌∙◌}
use Rattle.std.proofs.lemmas.Result.{IfOk-weaker}
use Rattle.abstract_monitor.specs.Endings.{joined}
use Rattle.open_transaction.specs.declared.open.OpenTransaction.{OpenTransaction}
use Rattle.open_transaction.specs.Transactions.{Boxed, boxed_transaction, HasOrder}
use Rattle.service_ends.specs.declared.point.Ended.{Ended}
use Rattle.service_ends.specs.Ending.{IsClosed}
use Rattle.service_ends.proofs.Ended.{goes_on, passed_as, points_as, refused_as, refuses_as, row_after_order}
use Rattle.service_ends.proofs.Fits.{point_commits}
use Rattle.service_ends.proofs.point.settle_transaction.Goals as goal
use Rattle.laws_of_states.specs.PointsLaws.{point_row_fits}

pub end_transaction-requires-clause-closed : goal.end_transaction-requires-clause-closed
end_transaction-requires-clause-closed c =
    let p = c.args.parts.now in
    subst (λ (w : Boxed). IsClosed p w) (sym (refused_as p.generation p.tables c.args.transaction c.in-Refused.transaction c.args.outcome _ c.in-Refused.cause (sym c.in-Refused.is ∙ c.in_ok-cause.ensures)).1) c.requires.closed

pub synchronise-requires-clause-commits : goal.synchronise-requires-clause-commits
synchronise-requires-clause-commits c =
    let p = c.args.parts.now in
    let passed = passed_as p.generation p.tables c.args.transaction c.args.outcome _ c.in-Synced.changes c.in-Synced.row c.in-Synced.kept (sym c.in-Synced.is ∙ c.in_ok-cause.ensures) in
    point_commits p c.args.transaction c.args.outcome c.in-Synced.changes c.in-Synced.row c.in-Synced.kept _ passed (ap (λ (e : Ended). e.id) c.in_ok-ended.ensures ∙ ap (λ (w : OpenTransaction). w.id) c.deref.ensures) c.requires.closed.stands

pub synchronise-requires-clause-rests : goal.synchronise-requires-clause-rests
synchronise-requires-clause-rests c =
    let p = c.args.parts.now in
    let passed = passed_as p.generation p.tables c.args.transaction c.args.outcome _ c.in-Synced.changes c.in-Synced.row c.in-Synced.kept (sym c.in-Synced.is ∙ c.in_ok-cause.ensures) in
    goes_on p c.args.transaction _ c.in-Synced.row c.requires.closed (ap (λ (e : Ended). e.id) c.in_ok-ended.ensures ∙ ap (λ (w : OpenTransaction). w.id) c.deref.ensures)
    (subst HasOrder (sym passed.row_is) (row_after_order c.args.transaction.value.id _ (point_row_fits p.generation c.args.transaction.value.id (boxed_transaction c.args.transaction) c.args.outcome c.requires.closed.stands.can.lssbs_order)))

pub returns-in-Refused-clause-exact : goal.returns-in-Refused-clause-exact
returns-in-Refused-clause-exact c =
    IfOk-weaker c.end_transaction.result _ _
    (λ did e. e ∙ refuses_as c.args.parts.now c.args.transaction c.in-Refused.transaction c.args.outcome _ c.in-Refused.cause (sym c.in-Refused.is ∙ c.in_ok-cause.ensures))
    c.end_transaction.ensures.exact

pub returns-in-Synced-clause-exact : goal.returns-in-Synced-clause-exact
returns-in-Synced-clause-exact c =
    let p = c.args.parts.now in
    let ended = c.in_ok-ended.ended in
    let passed = passed_as p.generation p.tables c.args.transaction c.args.outcome _ c.in-Synced.changes c.in-Synced.row c.in-Synced.kept (sym c.in-Synced.is ∙ c.in_ok-cause.ensures) in
    IfOk-weaker c.synchronise.result _ _
    (λ did e.
    e
    ∙ points_as p c.args.transaction c.args.outcome _ ended.id ended.outcome c.in-Synced.changes c.in-Synced.row c.in-Synced.kept ended.message ended.lterm passed c.requires.closed.stands
    (ap (λ (e : Ended). e.id) c.in_ok-ended.ensures ∙ ap (λ (w : OpenTransaction). w.id) c.deref.ensures)
    (ap (λ (e : Ended). e.outcome) c.in_ok-ended.ensures)
    (ap (λ (e : Ended). e.message) c.in_ok-ended.ensures ∙ ap (λ (w : OpenTransaction). joined w.messages.parts) c.deref.ensures)
    (ap (λ (e : Ended). e.lterm) c.in_ok-ended.ensures ∙ ap (λ (w : OpenTransaction). w.lterm) c.deref.ensures))
    c.synchronise.ensures.exact
