use Rattle.std.proofs.Common.{◌≡◌, ◌∙◌, ◌++◌, ap, ℕ, List}
use Rattle.application_types.specs.UnitText.{field_named}
use Rattle.abstract_monitor.specs.Fields.{stored}
use Rattle.abstract_monitor.specs.Statement.{moved_on}
use Rattle.service_parts.proofs.unit_step.Fields.{gets_fronts}
use Rattle.service_parts.proofs.unit_step.plain.join_bytes.Goals as goal

both : (a b x y : List ℕ) → a ≡ x → b ≡ y → a ++ b ≡ x ++ y
both a b x y e h = cc

pub returns-clause-ok : goal.returns-clause-ok
returns-clause-ok c =
    let found = c.in-Some.ensures ∙ ap (λ (n : List ℕ). field_named c.args.unit.now n) c.as_slice.ensures in
    let kept =
    c.as_slice-2.ensures ∙ c.in_ok-append.ensures.ok ∙ both c.in_ok-bytes.bytes c.front-2.result.now _ _ (c.in_ok-bytes.ensures ∙ c.front.ensures) c.front-2.ensures in
    let read = both c.value.result.now c.value-2.result.now _ _ c.value.ensures c.value-2.ensures in
    c.move_on-2.ensures
    ∙ ap moved_on (c.store.ensures.stored ∙ gets_fronts c.args.unit.now c.args.run.now c.args.name.now c.in-Some.field.now c.value.result.now c.value-2.result.now c.as_slice-2.result.now found kept ∙ ap (stored c.args.unit.now c.args.run.now c.args.name.now) read)
