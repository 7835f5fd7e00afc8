use Rattle.service_ends.specs.Ending.{broken_to}
use Rattle.service_ends.proofs.Ended.{breaks, over_as}
use Rattle.service_ends.proofs.broken.end.Goals as goal

pub returns-clause-exact : goal.returns-clause-exact
returns-clause-exact c =
    over_as c.end_transaction.result c.args.parts.now c.close_transaction-transaction.new.parts c.end_transaction.new.parts c.args.task c.args.id.now c.close_transaction-transaction.result (λ app s id x. broken_to app s id x c.args.ending) _
    (λ x. breaks _ _ _ _ x _) c.close_transaction-transaction.ensures.same c.close_transaction-transaction.ensures.state c.close_transaction-transaction.ensures.own c.close_transaction-transaction.ensures.found c.end_transaction.ensures.exact
