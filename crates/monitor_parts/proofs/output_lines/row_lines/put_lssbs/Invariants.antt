use Rattle.std.proofs.Common.{◌≡◌, ◌++◌, take}
use Rattle.std.specs.Prelude.{flat_map}
use Rattle.abstract_monitor.specs.Listing.{lssb_line}
use Rattle.monitor_parts.proofs.output_lines.row_lines.put_lssbs.Given as goal

abbrev pub invariant-loop-lssb : goal.invariant-loop-lssb
invariant-loop-lssb l = l.text ≡ l.initial.text ++ flat_map (lssb_line l.service) (take l.lssb-index l.lssb-items)
