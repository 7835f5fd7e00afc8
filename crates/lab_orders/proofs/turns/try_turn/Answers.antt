use Rattle.std.proofs.Common.{rules}
use Rattle.lab_orders.proofs.Trying.{tried_effect, tried_none}
use Rattle.lab_orders.proofs.turns.try_turn.Goals as goal

pub returns-then-shows_effect-clause-tried : goal.returns-then-shows_effect-clause-tried
returns-then-shows_effect-clause-tried c =
    tried_effect c.args.core c.in_ok-next.next c.args.task c.in_ok-next.did c.in_ok-next.ensures.one c.in_ok-next.ensures.facts c.in_ok-next.ensures.replays c.requires.facts c.in_ok-next.ensures.exact
    c.wait_in-before.result c.wait_in-after.result c.wait_in-before.ensures c.wait_in-after.ensures (search rules)

pub returns-else-shows_effect-clause-tried : goal.returns-else-shows_effect-clause-tried
returns-else-shows_effect-clause-tried c =
    tried_none c.args.core c.in_ok-next.next c.args.task c.in_ok-next.did c.in_ok-next.ensures.one c.in_ok-next.ensures.facts c.in_ok-next.ensures.replays c.requires.facts c.in_ok-next.ensures.exact
    c.wait_in-before.result c.wait_in-after.result c.wait_in-before.ensures c.wait_in-after.ensures (search rules)
