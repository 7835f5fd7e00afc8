use Rattle.lab_orders.proofs.Ordered.{walks_are_orders}
use Rattle.lab_orders.proofs.laws_of_orders.walks_are_orders.Goals as goal

pub returns : goal.returns
returns c = walks_are_orders
