use Rattle.service_parts.proofs.unit_step.Fields.{found_inside}
use Rattle.service_parts.proofs.unit_step.operand.named.Goals as goal

pub content-requires : goal.content-requires
content-requires c =
    found_inside c.args.unit.now c.args.run.now c.as_slice.result.now c.in-Some.field.now c.requires c.in-Some.ensures
