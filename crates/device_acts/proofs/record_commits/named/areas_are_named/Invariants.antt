use Rattle.std.proofs.Common.{All, take}
use Rattle.device_acts.specs.Named.{HasAreaName}
use Rattle.device_acts.proofs.record_commits.named.areas_are_named.Given as goal

abbrev pub invariant-loop-area : goal.invariant-loop-area
invariant-loop-area l = All HasAreaName (take l.area-index l.areas)
