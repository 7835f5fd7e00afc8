use Rattle.lab_orders.proofs.Trying.{tried_so}
use Rattle.lab_orders.proofs.turns.try_effect.Goals as goal

pub returns-clause-tried : goal.returns-clause-tried
returns-clause-tried c = tried_so c.args.core c.in_ok-next.next c.args.task c.in_ok-next.did c.is_some.result c.is_some.ensures c.in_ok-next.ensures.tried
