use Rattle.service_parts.proofs.unit_step.Writing.{put_and_filled}
use Rattle.service_parts.proofs.unit_step.area.fill_or_cut.Goals as goal

pub returns : goal.returns
returns c =
    put_and_filled c.args.at c.args.count c.min.result c.args.bytes.now c.args.area.now c.overwrite.new.self c.fill.new.self c.min.ensures c.requires c.overwrite.ensures c.fill.ensures
