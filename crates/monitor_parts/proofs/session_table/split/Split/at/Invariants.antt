use Rattle.monitor_parts.proofs.session_table.Splitting.{IsBefore}
use Rattle.monitor_parts.proofs.session_table.split.Split.at.Given as goal

abbrev pub invariant-loop-at : goal.invariant-loop-at
invariant-loop-at l = IsBefore l.mark l.bytes l.at
