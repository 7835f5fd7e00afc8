use Rattle.abstract_monitor.proofs.unit_semantics.Rows.{moves, numbers, comparisons, calls_and_ends}
use Rattle.abstract_monitor.proofs.unit_semantics.statement_rows.Goals as goal

pub returns : goal.returns
returns c = record { moves = moves; numbers = numbers; comparisons = comparisons; ends = calls_and_ends }
