use Rattle.service_parts.proofs.unit_step.Fields.{found_inside}
use Rattle.service_parts.proofs.unit_step.answer.read_into.Goals as goal

pub store-requires : goal.store-requires
store-requires c =
    found_inside c.args.unit.now c.args.run.now c.as_slice.result.now c.in-Some-field.field.now c.requires c.in-Some-field.ensures
