use Rattle.std.proofs.Common.{take}
use Rattle.application_types.specs.Index.{AreFieldPlaces}
use Rattle.application_types.proofs.unit_types.index.field_index.Given as goal

abbrev pub invariant-loop-i : goal.invariant-loop-i
invariant-loop-i l = AreFieldPlaces l.places (take l.i l.fields)
