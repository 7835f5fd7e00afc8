use Rattle.std.proofs.Common.{ap, ◌∙◌}
use Rattle.std.proofs.lemmas.Result.{IfOk-weaker}
use Rattle.abstract_monitor.specs.Turns.{dump_acts}
use Rattle.open_transaction.specs.declared.open.OpenTransaction.{OpenTransaction}
use Rattle.open_transaction.specs.Transactions.{transaction_of}
use Rattle.service_ends.proofs.Ended.{breaks_as}
use Rattle.service_ends.proofs.Fits.{end_commits}
use Rattle.service_ends.proofs.broken.end_transaction.Goals as goal

pub break_off-requires-clause-commits : goal.break_off-requires-clause-commits
break_off-requires-clause-commits c =
    end_commits c.args.parts.now c.args.transaction c.in_ok-changes.changes _ c.in_ok-changes.ensures.changes (ap (λ (w : OpenTransaction). w.id) c.deref.ensures) c.requires.closed.stands

pub returns-clause-exact : goal.returns-clause-exact
returns-clause-exact c =
    IfOk-weaker c.break_off.result _ _
    (λ did e. e ∙ breaks_as c.args.parts.now c.args.transaction c.args.ending _ c.in_ok-dump.dump c.in_ok-changes.changes c.in_ok-changes.kept c.in_ok-changes.ensures.changes c.in_ok-changes.ensures.kept
    (c.in_ok-dump.ensures ∙ ap (λ (w : OpenTransaction). dump_acts w.id (transaction_of w) c.args.ending) c.deref-2.ensures) (ap (λ (w : OpenTransaction). w.id) c.deref.ensures) c.requires.closed.stands)
    c.break_off.ensures.exact
