use Rattle.service_ends.specs.Ending.{pointed_to}
use Rattle.service_ends.proofs.Ended.{over_as, settles}
use Rattle.service_ends.proofs.point.pass_point.Goals as goal

pub returns-clause-exact : goal.returns-clause-exact
returns-clause-exact c =
    over_as c.settle_transaction.result c.args.parts.now c.close_transaction-transaction.new.parts c.settle_transaction.new.parts c.args.task c.args.id.now c.close_transaction-transaction.result (λ app s id x. pointed_to app s id x c.args.outcome) _
    (λ x. settles _ _ _ _ x _) c.close_transaction-transaction.ensures.same c.close_transaction-transaction.ensures.state c.close_transaction-transaction.ensures.own c.close_transaction-transaction.ensures.found c.settle_transaction.ensures.exact
