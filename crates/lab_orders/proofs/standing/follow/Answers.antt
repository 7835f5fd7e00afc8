use Rattle.std.proofs.Common.{subst, sym}
use Rattle.abstract_monitor.specs.State.{Application}
use Rattle.laws_of_runs.specs.Applied.{applied}
use Rattle.lab_orders.specs.Finding.{SawIt}
use Rattle.lab_orders.specs.Standing.{AreNodes}
use Rattle.lab_orders.proofs.Following.{walk_follows}
use Rattle.lab_orders.proofs.standing.follow.Goals as goal

pub put_choices-requires-clause-nodes : goal.put_choices-requires-clause-nodes
put_choices-requires-clause-nodes c = subst (λ (a : Application). AreNodes a c.args.tables.now c.args.commands.now c.args.nodes.now.items) (sym c.in_ok-generation.ensures.again.application) c.requires.nodes

pub returns-in-Ended-clause-followed : goal.returns-in-Ended-clause-followed
returns-in-Ended-clause-followed c =
    let app = applied c.args.generation c.args.units in
    walk_follows app c.args.tables.now c.args.commands.now c.args.nodes.now.items c.args.frames.now c.in-Ended.found (subst (SawIt app c.args.commands.now c.args.tables.now c.args.frames.now) c.in-Ended.is c.in_ok-generation.ensures.saw)
