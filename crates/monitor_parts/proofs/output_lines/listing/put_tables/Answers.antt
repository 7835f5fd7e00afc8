use Rattle.std.proofs.Common.{arith}
use Rattle.std.proofs.lemmas.Grind.{common_steps}
use Rattle.monitor_parts.proofs.output_lines.Listed.{listed}
use Rattle.monitor_parts.proofs.output_lines.listing.put_tables.Goals as goal

pub returns : goal.returns
returns c = let parts = listed c.args.tables.now in grind (arith, common_steps)
