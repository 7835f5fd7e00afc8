use Rattle.std.proofs.Common.{◌/◌, length}
use Rattle.kd_device.proofs.Replay.{torn_part}
use Rattle.kd_device.proofs.stop.tear.Goals as goal

pub returns-in-Half-clause-torn : goal.returns-in-Half-clause-torn
returns-in-Half-clause-torn c = torn_part _ c.args.image.now.items c.write_from-in-Half.new.image.items c.args.first c.args.at (length c.args.bytes.now / 2) c.args.bytes.now c.write_from-in-Half.ensures.torn
