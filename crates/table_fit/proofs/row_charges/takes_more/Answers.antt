use Rattle.std.proofs.Common.{arith, sym, refl, ◌∙◌, ◌≤◌, ◌+◌}
use Rattle.std.proofs.lemmas.Bool.{le-ltb}
use Rattle.kdcs_types.specs.Tables.{changed}
use Rattle.abstract_monitor.specs.Charges.{total_charge}
use Rattle.abstract_monitor.specs.Endings.{durable}
use Rattle.table_fit.proofs.Charged.{at_most}
use Rattle.table_fit.proofs.row_charges.takes_more.Goals as goal

pub returns-else-most-from : goal.returns-else-most-from
returns-else-most-from c =
    let g = c.args.generation.now in
    let total = total_charge g.limits.blksize (durable g (changed c.args.tables.now c.args.changes.now)) in
    let low : total ≤ c.from.result + c.made_by.result = at_most g c.args.tables.now c.args.changes.now c.as_slice.result.now c.from.result c.made_by.result c.as_slice.ensures c.clock-clock.ensures.sorted c.requires.changes (c.from.ensures ∙ c.requires.charge) c.made_by.ensures.sum in
    le-ltb c.from-2.result (c.from.result + c.made_by.result) (omega (arith, c.if-most-from.false)) ∙ sym (le-ltb c.args.pages total (omega (arith, c.if-most-from.false, low, c.from-2.ensures)))
