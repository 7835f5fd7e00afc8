use Rattle.std.proofs.Common.{◌≡◌, ◌++◌}
use Rattle.lab_states.proofs.signed.signed_in.Given as goal

abbrev pub invariant-loop-pterm : goal.invariant-loop-pterm
invariant-loop-pterm l = l.signed ++ l.pterm-iterator ≡ l.sessions
