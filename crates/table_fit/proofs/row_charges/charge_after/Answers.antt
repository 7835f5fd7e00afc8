use Rattle.std.proofs.Common.{arith, ap, ◌≡◌, ◌+◌, ◌∙◌, ℕ, List}
use Rattle.kdcs_types.specs.declared.act.Change.{Change}
use Rattle.table_fit.proofs.Charged.{after_changes}
use Rattle.table_fit.proofs.row_charges.charge_after.Goals as goal

pub overflow_sub-result : goal.overflow_sub-result
overflow_sub-result c =
    let e = after_changes c.args.generation.now c.args.tables.now c.args.changes.now c.as_slice-items.result.now c.from.result c.made_by.result c.replaced_by.result c.as_slice-items.ensures c.clock-clock.ensures.sorted c.requires.changes (c.from.ensures ∙ c.requires.charge) c.made_by.ensures.sum c.replaced_by.ensures in
    omega (arith, e)

pub returns : goal.returns
returns c =
    let e = after_changes c.args.generation.now c.args.tables.now c.args.changes.now c.as_slice-items.result.now c.from.result c.made_by.result c.replaced_by.result c.as_slice-items.ensures c.clock-clock.ensures.sorted c.requires.changes (c.from.ensures ∙ c.requires.charge) c.made_by.ensures.sum c.replaced_by.ensures in
    omega (arith, e)
