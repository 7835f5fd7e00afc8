use Rattle.kd_base.specs.OrderLaws.{equal_is_same, tied_is_same, order_is_total}
use Rattle.kd_base.proofs.laws.names_are_told_apart.Goals as goal

pub returns : goal.returns
returns c = record { equal = equal_is_same; tied = tied_is_same; total = order_is_total }
