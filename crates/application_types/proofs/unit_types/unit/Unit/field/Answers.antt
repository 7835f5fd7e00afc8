use Rattle.std.proofs.Common.{List, ap, ◌∙◌}
use Rattle.std.specs.Prelude.{bytes_eq, slice_get}
use Rattle.std.specs.Option.{option_and_then}
use Rattle.application_types.specs.declared.unit_types.unit.Field.{Field}
use Rattle.application_types.specs.PlacesLaws.{found_at, lent_at}
use Rattle.application_types.proofs.unit_types.unit.Unit.field.Goals as goal

pub returns-in-Some : goal.returns-in-Some
returns-in-Some c =
    rw (← c.self.view_is)
    (lent_at c.deref.result.now c.in-Some.place.now c.get-in-Some.result c.get-in-Some.ensures.lookup
    ∙ ap (λ (fields : List Field). slice_get fields c.in-Some.place.now) c.deref.ensures.value
    ∙ ap (option_and_then (slice_get c.self.inside.fields.items)) (c.in-Some.ensures.value ∙ c.self.invariant.0 c.args.name.now)
    ∙ found_at (λ (f : Field). bytes_eq c.args.name.now f.name) c.self.inside.fields.items)

pub returns-in-None : goal.returns-in-None
returns-in-None c =
    rw (← c.self.view_is)
    (ap (option_and_then (slice_get c.self.inside.fields.items)) (c.in-None.ensures.value ∙ c.self.invariant.0 c.args.name.now)
    ∙ found_at (λ (f : Field). bytes_eq c.args.name.now f.name) c.self.inside.fields.items)
