use Rattle.std.proofs.Common.{ap, sym, ◌∙◌}
use Rattle.std.specs.List.{list_all}
use Rattle.table_fit.specs.ChargingLaws.{charged_too_much, rows_short}
use Rattle.table_fit.specs.Charging.{has_few_bytes}
use Rattle.table_fit.proofs.charges.charges_suit.Goals as goal

pub pages_left-requires-clause-short : goal.pages_left-requires-clause-short
pages_left-requires-clause-short c =
    rows_short c.args.generation.now c.args.tables.now c.max-limits.ensures.sound.limits c.requires
    (ap (list_all has_few_bytes) (sym c.shown.ensures) ∙ sym c.are_short.ensures ∙ c.if-are_short.true)

pub returns-else-are_short : goal.returns-else-are_short
returns-else-are_short c =
    c.if-are_short.false
    ∙ charged_too_much c.args.generation.now c.args.tables.now c.max-limits.ensures.sound.limits
    (ap (list_all has_few_bytes) (sym c.shown.ensures) ∙ sym c.are_short.ensures ∙ c.if-are_short.false)
