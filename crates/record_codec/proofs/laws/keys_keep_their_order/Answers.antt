use Rattle.record_codec.specs.OrderLaws.{keys_keep_their_order}
use Rattle.record_codec.proofs.laws.keys_keep_their_order.Goals as goal

pub returns : goal.returns
returns c = keys_keep_their_order
