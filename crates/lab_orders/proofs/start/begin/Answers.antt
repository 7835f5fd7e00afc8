use Rattle.std.proofs.Common.{◌∙◌}
use Rattle.lab_orders.proofs.Finding.{begun}
use Rattle.lab_orders.proofs.start.begin.Goals as goal

pub returns : goal.returns
returns c =
    begun c.args.generation c.args.units c.args.tables.now c.in_ok-core.core c.start-2.result c.in_ok-core.ensures.application c.in_ok-core.ensures.state c.in_ok-core.ensures.facts c.in_ok-core.ensures.replays c.in_ok-core.ensures.steps
    c.requires.suits c.start-2.ensures.turns c.start-2.ensures.sent c.start-2.ensures.signs c.start-2.ensures.serial (c.start-2.ensures.durable ∙ c.in_ok-durable.ensures.cases)
