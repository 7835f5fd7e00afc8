use Rattle.lab_orders.proofs.Named.{walks_are_scripts}
use Rattle.lab_orders.proofs.laws_of_orders.walks_are_scripts.Goals as goal

pub returns : goal.returns
returns c = walks_are_scripts
