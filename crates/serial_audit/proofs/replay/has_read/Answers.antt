use Rattle.std.specs.Prelude.{length, nat_le}
use Rattle.serial_audit.proofs.replay.has_read.Goals as goal

pub returns : goal.returns
returns c = λ i. nat_le (c.len.ensures i) (length (c.accepted.ensures i))
