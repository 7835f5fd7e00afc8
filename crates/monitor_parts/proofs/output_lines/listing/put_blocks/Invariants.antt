use Rattle.std.proofs.Common.{◌≡◌, ◌++◌, take}
use Rattle.std.specs.Prelude.{flat_map}
use Rattle.abstract_monitor.specs.Listing.{block_line}
use Rattle.monitor_parts.proofs.output_lines.listing.put_blocks.Given as goal

abbrev pub invariant-loop-row : goal.invariant-loop-row
invariant-loop-row l = l.text ≡ l.initial.text ++ flat_map (block_line l.kind) (take l.row-index l.rows)
