use Rattle.std.proofs.Common.{◌≡◌, ◌++◌}
use Rattle.std.specs.Prelude.{map}
use Rattle.service_ends.specs.Standing.{active_of}
use Rattle.lab_states.specs.Outlines.{kept_now}
use Rattle.lab_states.proofs.kept.kept_in.Given as goal

abbrev pub invariant-loop-id : goal.invariant-loop-id
invariant-loop-id l = l.kept ++ map kept_now (active_of l.id-iterator) ≡ map kept_now (active_of l.active)
