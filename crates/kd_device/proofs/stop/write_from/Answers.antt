use Rattle.std.proofs.Common.{arith}
use Rattle.kd_device.proofs.Replay.{torn_ok}
use Rattle.kd_device.proofs.stop.write_from.Goals as goal

pub returns-then-first-len-clause-torn : goal.returns-then-first-len-clause-torn
returns-then-first-len-clause-torn c =
    let v = c.args.image.now in
    torn_ok c.write_over.result v.items c.write_over.new.to.items c.args.first c.args.at c.args.bytes.now c.requires (omega (arith, v.ok.0, c.len.ensures)) c.write_over.ensures
