use Rattle.std.proofs.Common.{◌≡◌, ◌++◌, drop}
use Rattle.std.specs.Prelude.{filter}
use Rattle.kdcs_types.specs.declared.service.Service.{Service}
use Rattle.abstract_monitor.specs.Endings.{is_asynchronous}
use Rattle.monitor_core.proofs.start.asynchronous_rows.Given as goal

abbrev pub invariant-loop-row : goal.invariant-loop-row
invariant-loop-row l = l.found.items ++ filter (λ (s : Service). is_asynchronous s.id) (drop l.row-index l.fn.rows) ≡ filter (λ (s : Service). is_asynchronous s.id) l.fn.rows
