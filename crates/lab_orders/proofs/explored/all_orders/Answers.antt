use Rattle.lab_orders.proofs.Serially.{serial_few}
use Rattle.std.proofs.Common.{◌≤◌, arith, get_or, length, subst, sym}
use Rattle.abstract_monitor.specs.Commands.{started}
use Rattle.abstract_monitor.specs.State.{Application}
use Rattle.laws_of_runs.specs.Applied.{applied}
use Rattle.lab_orders.specs.Finding.{Descended}
use Rattle.lab_walks.specs.Frames.{AdvancedOrNot}
use Rattle.lab_walks.specs.Frames.{IsWay}
use Rattle.lab_orders.proofs.Covering.{tried_all, tried_further, tried_more, tried_start}
use Rattle.lab_orders.proofs.Finding.{start_again, start_next}
use Rattle.lab_orders.proofs.explored.all_orders.Goals as goal

pub loop-tried-init : goal.loop-tried-init
loop-tried-init c = record {
  can = c.requires;
  all = tried_start (applied c.args.generation c.args.units) c.args.tables.now c.args.commands.now c.new-outcomes.result.items c.new-frames.result.items c.new-outcomes.ensures.items c.new-frames.ensures.items;
}

pub descend-requires-clause-start : goal.descend-requires-clause-start
descend-requires-clause-start c = start_again (applied c.args.generation c.args.units) c.args.tables.now c.args.commands.now c.loop-tried.generation c.loop-tried.units c.loop-tried.invariant.can

pub descend-requires-clause-way : goal.descend-requires-clause-way
descend-requires-clause-way c = subst (λ (a : Application). IsWay a c.args.commands.now (started a c.args.tables.now) c.loop-tried.frames.items) (sym c.loop-tried.invariant.can.application) c.loop-tried.invariant.all.way

pub returns-then-not-branch-clause-whole : goal.returns-then-not-branch-clause-whole
returns-then-not-branch-clause-whole c =
    let app = applied c.args.generation c.args.units in
    let t = c.args.tables.now in
    let cs = c.args.commands.now in
    let inv = c.loop-tried.invariant in
    let down = subst (λ (a : Application). Descended a t cs c.loop-tried.frames.items c.descend.new.frames.items c.in_ok-g.found) inv.can.application c.in_ok-g.ensures.descended in
    tried_all app t cs c.loop-tried.tried c.loop-tried.outcomes.items c.loop-tried.frames.items c.descend.new.frames.items c.in_ok-g.found inv.all down c.add.new.outcomes.items c.in_ok-add.ensures
    (subst (AdvancedOrNot c.descend.new.frames.items c.advance.new.frames.items) c.if-not-branch.true c.in_ok-advance.ensures)
    c.args.most c.loop-tried-test.true c.all.result c.all.ensures.outcomes c.all.ensures.orders c.all.ensures.all c.all.ensures.each

pub returns-then-not-branch-clause-again : goal.returns-then-not-branch-clause-again
returns-then-not-branch-clause-again c = start_next (applied c.args.generation c.args.units) c.args.tables.now c.args.commands.now c.loop-tried.generation c.loop-tried.units c.loop-tried.invariant.can c.in_ok-g.g c.in_ok-g.u c.in_ok-g.ensures.again

pub loop-tried-preserved : goal.loop-tried-preserved
loop-tried-preserved c =
    let app = applied c.args.generation c.args.units in
    let t = c.args.tables.now in
    let cs = c.args.commands.now in
    let inv = c.loop-tried.invariant in
    let down = subst (λ (a : Application). Descended a t cs c.loop-tried.frames.items c.descend.new.frames.items c.in_ok-g.found) inv.can.application c.in_ok-g.ensures.descended in
    record {
      can = start_next app t cs c.loop-tried.generation c.loop-tried.units inv.can c.in_ok-g.g c.in_ok-g.u c.in_ok-g.ensures.again;
      all = tried_more app t cs c.loop-tried.tried c.loop-tried.outcomes.items c.loop-tried.frames.items c.descend.new.frames.items c.in_ok-g.found inv.all down c.add.new.outcomes.items c.in_ok-add.ensures c.advance.new.frames.items
          (subst (AdvancedOrNot c.descend.new.frames.items c.advance.new.frames.items) c.if-not-branch.false c.in_ok-advance.ensures);
    }

pub returns-clause-whole : goal.returns-clause-whole
returns-clause-whole c =
    let app = applied c.args.generation c.args.units in
    let t = c.args.tables.now in
    let cs = c.args.commands.now in
    let inv = c.loop-tried.invariant in
    let down = subst (λ (a : Application). Descended a t cs c.loop-tried.frames.items c.descend-2.new.frames.items c.in_ok-generation._more) inv.can.application c.in_ok-generation.ensures.descended in
    tried_further app t cs c.loop-tried.tried c.loop-tried.outcomes.items c.loop-tried.frames.items c.descend-2.new.frames.items c.in_ok-generation._more inv.all down c.args.most (omega (arith, c.loop-tried-test.false, c.loop-tried.auto.tried-end))

pub add-requires-clause-serial : goal.add-requires-clause-serial
add-requires-clause-serial c =
    let app = applied c.args.generation c.args.units in
    let all = c.loop-tried.invariant.all in
    λ k d less.
    let few : (get_or c.loop-tried.outcomes.items k d).serial ≤ length all.walks = serial_few app c.args.tables.now c.args.commands.now all.walks c.loop-tried.outcomes.items all.tally.told k d less in
    let number = all.number in
    omega (arith, few, number, c.loop-tried-test.true)
