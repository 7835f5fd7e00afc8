use Rattle.std.proofs.Common.{take}
use Rattle.application_types.specs.Fitted.{AreUnitPlaces}
use Rattle.application_types.proofs.units.places_of.Given as goal

abbrev pub invariant-loop-i : goal.invariant-loop-i
invariant-loop-i l = AreUnitPlaces l.places (take l.i l.units)
