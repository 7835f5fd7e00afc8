use Rattle.std.proofs.Common.{◌∙◌, ap, ℕ, List}
use Rattle.application_types.specs.UnitText.{field_named}
use Rattle.abstract_monitor.specs.Fields.{stored}
use Rattle.abstract_monitor.specs.Statement.{moved_on}
use Rattle.service_parts.proofs.unit_step.Fields.{gets_front}
use Rattle.service_parts.proofs.unit_step.plain.move_bytes.Goals as goal

pub returns-clause-ok : goal.returns-clause-ok
returns-clause-ok c =
    let found = c.in-Some.ensures ∙ ap (λ (n : List ℕ). field_named c.args.unit.now n) c.as_slice.ensures in
    let kept = c.as_slice-2.ensures ∙ c.in_ok-bytes.ensures ∙ c.front.ensures in
    c.move_on-2.ensures
    ∙ ap moved_on (c.store.ensures.stored ∙ gets_front c.args.unit.now c.args.run.now c.args.name.now c.in-Some.field.now c.value.result.now c.as_slice-2.result.now found kept ∙ ap (stored c.args.unit.now c.args.run.now c.args.name.now) c.value.ensures)
