use Rattle.std.proofs.Common.{take}
use Rattle.application_types.specs.Index.{AreLabelPlaces}
use Rattle.application_types.proofs.unit_types.index.label_index.Given as goal

abbrev pub invariant-loop-label : goal.invariant-loop-label
invariant-loop-label l = AreLabelPlaces l.places (take l.label-index l.labels)
