use Rattle.std.proofs.Common.{◌≤◌, arith, get_or, length}
use Rattle.lab_orders.proofs.Serially.{serial_few}
use Rattle.laws_of_runs.specs.Applied.{applied}
use Rattle.lab_orders.proofs.Covering.{drawn_none, drawn_one}
use Rattle.lab_orders.proofs.Finding.{found_next, start_again, start_next}
use Rattle.lab_orders.proofs.explored.drawn_orders.Goals as goal

pub loop-drawn-init : goal.loop-drawn-init
loop-drawn-init c = record {
  can = c.requires;
  are = drawn_none (applied c.args.generation c.args.units) c.args.tables.now c.args.commands.now c.new-outcomes.result.items c.new-outcomes.ensures.items;
}

pub drawn_order-requires : goal.drawn_order-requires
drawn_order-requires c = start_again (applied c.args.generation c.args.units) c.args.tables.now c.args.commands.now c.loop-drawn.generation c.loop-drawn.units c.loop-drawn.invariant.can

pub loop-drawn-preserved : goal.loop-drawn-preserved
loop-drawn-preserved c =
    let app = applied c.args.generation c.args.units in
    let t = c.args.tables.now in
    let cs = c.args.commands.now in
    let can = c.loop-drawn.invariant.can in
    record {
      can = start_next app t cs c.loop-drawn.generation c.loop-drawn.units can c.in_ok-g.g c.in_ok-g.u c.in_ok-g.ensures.again;
      are = drawn_one app t cs c.loop-drawn._drawn c.loop-drawn.outcomes.items c.add.new.outcomes.items c.in_ok-g.found c.loop-drawn.invariant.are (found_next app t cs c.loop-drawn.generation c.loop-drawn.units can c.in_ok-g.found c.in_ok-g.ensures.order) c.in_ok-add.ensures;
    }

pub add-requires-clause-serial : goal.add-requires-clause-serial
add-requires-clause-serial c =
    let app = applied c.args.generation c.args.units in
    let are = c.loop-drawn.invariant.are in
    λ k d less.
    let few : (get_or c.loop-drawn.outcomes.items k d).serial ≤ length are.walks = serial_few app c.args.tables.now c.args.commands.now are.walks c.loop-drawn.outcomes.items are.tally.told k d less in
    let number = are.number in
    omega (arith, few, number, c.loop-drawn-test.true)
