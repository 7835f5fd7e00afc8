use Rattle.std.proofs.Common.{sym, ap, subst, ◌∙◌}
use Rattle.application_types.specs.Generation.{entry_of}
use Rattle.application_types.specs.Fitted.{FittedUnits, AreFit}
use Rattle.application_types.proofs.units.Places.{lent_unit}
use Rattle.application_types.proofs.units.Fitted.unit_of.Goals as goal

pub returns-in-Some : goal.returns-in-Some
returns-in-Some c =
    let at = ap (λ (f : FittedUnits). entry_of f.tacs c.args.tac) (sym c.self.view_is) ∙ sym c.in-Some.ensures.value in
    let fit = subst (λ (f : FittedUnits). AreFit f.limits f.tacs f.units) c.self.view_is c.self.invariant.1 in
    let is = lent_unit c.args.self.now c.args.tac c.in-Some.entry.now c.unit_named.result fit at c.unit_named.ensures in
    record { unit = is.unit; found = is.found; fitted = is.fits }
