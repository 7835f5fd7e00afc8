use Rattle.std.proofs.lemmas.Result.{IfOk-weaker, on_ok_weaker}
use Rattle.std.specs.Prelude.{is_some}
use Rattle.std.proofs.Common.{sym, ap, ◌∙◌}
use Rattle.open_transaction.specs.Transactions.{transaction_of}
use Rattle.kdcs_calls.specs.StatingLaws.{contents_fit}
use Rattle.serial_audit.specs.Replaying.{app_of, tables_in}
use Rattle.serial_audit.proofs.Doing.{call_alone, held_done, just, refused_done, unasked_done}
use Rattle.serial_audit.proofs.statement.do_refused.Goals.{then-held-via-then-held, then-held-via-else-held+then-not-asks_lock}
use Rattle.serial_audit.proofs.statement.do_refused.Goals as goal

pub perform_call-requires-clause-contents : goal.perform_call-requires-clause-contents
perform_call-requires-clause-contents c = contents_fit (app_of c.args.replay.now).generation (tables_in c.args.replay.now) c.args.transaction.now.id c.requires.auditable.sound

pub perform_call-requires-clause-holds : goal.perform_call-requires-clause-holds
perform_call-requires-clause-holds c = just c.args.replay.now c.args.locks.now c.args.transaction.now c.requires.goes

pub returns-then-held-clause-exact : goal.returns-then-held-clause-exact
returns-then-held-clause-exact c =
    elim c.then-held.branch [
      | then-held-via-then-held w ↦ IfOk-weaker c.perform_call.result _ _ (λ h e. e ∙ held_done c.args.replay.now c.args.locks.now c.args.transaction.now c.requires.goes c.args.unit.now c.args.call.now c.args.area c.requires.area c.args.code c.requires.first (ap is_some (sym c.holder.ensures.value) ∙ sym c.is_some-held.ensures ∙ w.if-held.true)) c.perform_call.ensures.exact
      | then-held-via-else-held+then-not-asks_lock w ↦ IfOk-weaker c.perform_call.result _ _ (λ h e. e ∙ unasked_done c.args.replay.now c.args.locks.now c.args.transaction.now c.requires.goes c.args.unit.now c.args.call.now c.args.area c.requires.area c.args.code c.requires.first (sym w.asks_lock.ensures ∙ w.if-not-asks_lock.true)) c.perform_call.ensures.exact
    ]

pub returns-then-held-clause-alone : goal.returns-then-held-clause-alone
returns-then-held-clause-alone c = on_ok_weaker c.perform_call.result (λ h. call_alone c.args.replay.now c.args.locks.now c.args.transaction.now c.requires.goes c.perform_call.new.locks (transaction_of c.perform_call.new.transaction) h) c.perform_call.ensures.holders

pub returns-clause-exact : goal.returns-clause-exact
returns-clause-exact c = refused_done c.args.replay.now c.args.locks.now c.args.transaction.now c.requires.goes c.args.unit.now c.args.call.now c.args.area c.requires.area c.args.code c.requires.first c.requires.auditable (sym c.asks_lock.ensures ∙ c.if-not-asks_lock.false) (ap is_some (sym c.holder.ensures.value) ∙ sym c.is_some-held.ensures ∙ c.if-held.false) (transaction_of c.refuse.new.transaction) c.refuse.result c.refuse.ensures.exact c.refuse.ensures.went
