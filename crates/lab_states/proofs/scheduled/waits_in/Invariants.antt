use Rattle.std.proofs.Common.{◌≡◌, ◌++◌}
use Rattle.lab_states.proofs.scheduled.waits_in.Given as goal

abbrev pub invariant-loop-id : goal.invariant-loop-id
invariant-loop-id l = l.waits ++ l.id-iterator ≡ l.locks.waits
