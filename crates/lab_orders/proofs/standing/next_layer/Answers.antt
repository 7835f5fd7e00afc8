use Rattle.std.proofs.Common.{◌<◌, ◌≤◌, List, arith, get_or, length, subst, sym}
use Rattle.abstract_monitor.specs.Commands.{started}
use Rattle.abstract_monitor.specs.State.{Application}
use Rattle.laws_of_runs.specs.Applied.{applied}
use Rattle.lab_walks.specs.declared.frame.Frame.{Frame}
use Rattle.lab_walks.specs.Frames.{IsWay}
use Rattle.lab_orders.specs.Exploring.{IsFollowedIf}
use Rattle.lab_orders.specs.Standing.{AreInPlace, AreNodes}
use Rattle.lab_orders.proofs.Finding.{start_next}
use Rattle.lab_orders.proofs.Following.{layer_more, layer_next, layer_node}
use Rattle.lab_orders.proofs.Serially.{serial_few}
use Rattle.lab_orders.proofs.standing.next_layer.Goals as goal

pub follow-requires-clause-way : goal.follow-requires-clause-way
follow-requires-clause-way c =
    let app = applied c.args.generation c.args.units in
    let t = c.args.tables.now in
    let cs = c.args.commands.now in
    let less : c.loop-node.node-index < length c.args.layer.now = omega arith in
    let inv = c.loop-node.invariant in
    subst (λ (a : Application). IsWay a cs (started a t) c.as_slice.result.now) (sym inv.can.application)
    (subst (IsWay app cs (started app t)) (sym c.as_slice.ensures)
    (layer_node app t cs c.args.most c.args.layer.now c.loop-node.outcomes.items c.loop-node.orders c.loop-node.next.items c.loop-node.node-index c.node-item.result less c.node-item.is inv.followed).way)

pub follow-requires-clause-nodes : goal.follow-requires-clause-nodes
follow-requires-clause-nodes c =
    let app = applied c.args.generation c.args.units in
    let t = c.args.tables.now in
    let cs = c.args.commands.now in
    let inv = c.loop-node.invariant in
    subst (λ (a : Application). AreNodes a t cs c.loop-node.next.items) (sym inv.can.application)
    (layer_next app t cs c.args.most c.args.layer.now c.loop-node.outcomes.items c.loop-node.orders c.loop-node.next.items c.loop-node.node-index inv.followed)

pub add_if-requires-clause-serial : goal.add_if-requires-clause-serial
add_if-requires-clause-serial c =
    let app = applied c.args.generation c.args.units in
    let followed = c.loop-node.invariant.followed in
    λ k d less.
    let few : (get_or c.loop-node.outcomes.items k d).serial ≤ length followed.walks = serial_few app c.args.tables.now c.args.commands.now followed.walks c.loop-node.outcomes.items followed.tally.told k d less in
    let number = followed.number in
    omega (arith, few, number)

pub loop-node-preserved : goal.loop-node-preserved
loop-node-preserved c =
    let app = applied c.args.generation c.args.units in
    let t = c.args.tables.now in
    let cs = c.args.commands.now in
    let less : c.loop-node.node-index < length c.args.layer.now = omega arith in
    let inv = c.loop-node.invariant in
    record {
      can = start_next app t cs c.loop-node.generation c.loop-node.units inv.can c.in_ok-g.g c.in_ok-g.u c.in_ok-g.ensures.again;
      followed =
          layer_more app t cs c.args.most c.args.layer.now c.loop-node.outcomes.items c.add_if.new.outcomes.items c.loop-node.orders c.add_if.new.orders c.loop-node.next.items c.follow.new.nodes.items c.loop-node.node-index c.node-item.result c.in_ok-g.found less c.node-item.is inv.followed
          (subst (λ (a : Application). AreInPlace a t cs c.loop-node.next.items c.follow.new.nodes.items) inv.can.application c.in_ok-g.ensures.nodes)
          (subst (λ (x : Application × List Frame). IsFollowedIf x.0 t cs c.follow.new.nodes.items x.1 c.in_ok-g.found) (λ i. (inv.can.application i, c.as_slice.ensures i)) c.in_ok-g.ensures.followed)
          (c.in_ok-add_if.ensures c.if-not-branch.false);
    }
