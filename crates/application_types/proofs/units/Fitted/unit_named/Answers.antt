use Rattle.std.proofs.Common.{List, ap, ◌∙◌}
use Rattle.std.specs.Prelude.{slice_get, Some, None}
use Rattle.application_types.specs.PlacesLaws.{lent_at}
use Rattle.application_types.specs.UnitText.{UnitText}
use Rattle.application_types.proofs.units.Places.{unit_at}
use Rattle.application_types.proofs.units.Fitted.unit_named.Goals as goal

pub returns-in-Some : goal.returns-in-Some
returns-in-Some c =
    rw (← c.self.view_is)
    (lent_at c.deref.result.now c.in-Some.place.now c.get-in-Some.result c.get-in-Some.ensures.lookup
    ∙ ap (λ (units : List UnitText). slice_get units c.in-Some.place.now) c.deref.ensures.value
    ∙ unit_at c.self.inside.units.items c.args.name.now (Some c.in-Some.place.now) (c.in-Some.ensures.value ∙ c.self.invariant.0 c.args.name.now))

pub returns-in-None : goal.returns-in-None
returns-in-None c =
    rw (← c.self.view_is) (unit_at c.self.inside.units.items c.args.name.now None (c.in-None.ensures.value ∙ c.self.invariant.0 c.args.name.now))
