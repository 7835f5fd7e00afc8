use Rattle.std.proofs.Common.{ap, subst}
use Rattle.open_transaction.specs.declared.open.OpenTransaction.{OpenTransaction}
use Rattle.open_transaction.specs.Transactions.{HasOrder}
use Rattle.service_ends.proofs.Ended.{began_order, goes_on}
use Rattle.service_ends.proofs.back.back_from.Goals as goal

pub back_at-requires-clause-rests : goal.back_at-requires-clause-rests
back_at-requires-clause-rests c =
    goes_on c.args.parts.now c.args.transaction _ _ c.requires.closed (ap (λ (w : OpenTransaction). w.id) c.deref.ensures)
    (subst HasOrder c.in-Some.is (rw c.take.ensures.value (rw c.deref_mut.ensures.value (began_order c.args.parts.now c.args.transaction c.requires.closed))))
