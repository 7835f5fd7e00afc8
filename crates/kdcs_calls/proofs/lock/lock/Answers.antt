use Rattle.std.specs.Prelude.{◌≡◌, Option, IfOk}
use Rattle.std.proofs.Common.{subst}
use Rattle.abstract_monitor.specs.declared.answer.Called.{Called}
use Rattle.abstract_monitor.specs.declared.answer.LockAnswer.{LockAnswer}
use Rattle.abstract_monitor.specs.Calls.{Performed, on_answer}
use Rattle.abstract_monitor.specs.State.{OpenTransaction as Transaction}
use Rattle.open_transaction.specs.Transactions.{transaction_of}
use Rattle.kdcs_calls.specs.Parts.{after_lock}
use Rattle.kdcs_calls.proofs.Locking.{told_answer}
use Rattle.kdcs_calls.proofs.lock.lock.Goals as goal

pub returns-clause-exact : goal.returns-clause-exact
returns-clause-exact c =
    let x = transaction_of c.args.transaction.now in
    let y = transaction_of c.take_answer.new.transaction in
    subst (λ (a : LockAnswer). IfOk c.take_answer.result (λ (called : Option Called). (go : Transaction → Performed) → after_lock called y go ≡ on_answer x c.args.area.now a go))
    (told_answer c.args.outside.now.generation.now c.args.outside.now.tables.now c.args.locks.now c.args.transaction.now.id x c.args.area.now _ _ _ c.requires c.max.ensures.limits c.clock.ensures.value c.in_ok-answer.ensures.answer)
    c.take_answer.ensures.exact
