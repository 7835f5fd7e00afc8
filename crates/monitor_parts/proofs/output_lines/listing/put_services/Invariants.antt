use Rattle.std.proofs.Common.{◌≡◌, ◌++◌, take}
use Rattle.std.specs.Prelude.{flat_map}
use Rattle.abstract_monitor.specs.Listing.{service_lines}
use Rattle.monitor_parts.proofs.output_lines.listing.put_services.Given as goal

abbrev pub invariant-loop-row : goal.invariant-loop-row
invariant-loop-row l = l.text ≡ l.initial.text ++ flat_map service_lines (take l.row-index l.rows)
