use Rattle.std.proofs.Common.{◌≡◌, ◌+◌, take}
use Rattle.std.specs.Prelude.{sum_by}
use Rattle.abstract_monitor.specs.Charges.{charge_of}
use Rattle.table_fit.proofs.charges.left.Given as goal

abbrev pub invariant-loop-row : goal.invariant-loop-row
invariant-loop-row g l = l.left + sum_by (λ r. charge_of l.blksize (g.R.Charged.bytes r)) (take l.row-index l.rows) ≡ l.pages
