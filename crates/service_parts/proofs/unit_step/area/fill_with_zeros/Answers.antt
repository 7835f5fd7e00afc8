use Rattle.service_parts.proofs.unit_step.Writing.{zeros_and_digits}
use Rattle.service_parts.proofs.unit_step.area.fill_with_zeros.Goals as goal

pub returns : goal.returns
returns c =
    zeros_and_digits c.args.at c.args.count c.args.digits.now c.args.area.now c.fill.new.self c.overwrite.new.self c.requires.bounded c.requires.inside c.fill.ensures c.overwrite.ensures
