use Rattle.service_parts.proofs.unit_step.Fields.{found_inside}
use Rattle.service_parts.proofs.unit_step.plain.arithmetic.Goals as goal

pub calculate-requires-clause-field : goal.calculate-requires-clause-field
calculate-requires-clause-field c =
    found_inside c.args.unit.now c.args.run.now c.as_slice.result.now c.in-Some.field.now c.requires.inside c.in-Some.ensures
