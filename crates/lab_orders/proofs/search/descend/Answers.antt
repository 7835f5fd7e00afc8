use Rattle.std.proofs.Common.{sym, subst}
use Rattle.abstract_monitor.specs.Commands.{started}
use Rattle.abstract_monitor.specs.State.{Application}
use Rattle.laws_of_runs.specs.Applied.{applied}
use Rattle.lab_orders.specs.Finding.{SawIt}
use Rattle.lab_walks.specs.Frames.{IsWay}
use Rattle.lab_orders.proofs.Finding.{start_again, start_next}
use Rattle.lab_orders.proofs.Found.{deeper_kept, deeper_only, deeper_way, descended, longer, saw_next}
use Rattle.lab_orders.proofs.search.descend.Goals as goal

pub see-requires-clause-start : goal.see-requires-clause-start
see-requires-clause-start c = start_again (applied c.args.generation c.args.units) c.args.tables.now c.args.commands.now c.loop-deeper.generation c.loop-deeper.units c.loop-deeper.invariant.can

pub see-requires-clause-way : goal.see-requires-clause-way
see-requires-clause-way c =
    let app = applied c.args.generation c.args.units in
    subst (λ (a : Application). IsWay a c.args.commands.now (started a c.args.tables.now) c.as_slice.result.now) (sym c.loop-deeper.invariant.can.application)
    (subst (IsWay app c.args.commands.now (started app c.args.tables.now)) (sym c.as_slice.ensures.value) c.loop-deeper.invariant.way)

pub returns-in-Ended-clause-again : goal.returns-in-Ended-clause-again
returns-in-Ended-clause-again c = start_next (applied c.args.generation c.args.units) c.args.tables.now c.args.commands.now c.loop-deeper.generation c.loop-deeper.units c.loop-deeper.invariant.can c.in_ok-g.g c.in_ok-g.u c.in_ok-g.ensures.again

pub returns-in-Ended-clause-descended : goal.returns-in-Ended-clause-descended
returns-in-Ended-clause-descended c =
    let app = applied c.args.generation c.args.units in
    let inv = c.loop-deeper.invariant in
    descended app c.args.tables.now c.args.commands.now c.args.frames.now.items c.loop-deeper.frames.items inv.way inv.kept inv.only c.in-Ended.found
    (subst (SawIt app c.args.commands.now c.args.tables.now c.loop-deeper.frames.items) c.in-Ended.is (saw_next app (applied c.loop-deeper.generation c.loop-deeper.units) inv.can.application c.args.tables.now c.args.commands.now c.as_slice.result.now c.loop-deeper.frames.items c.as_slice.ensures.value c.in_ok-g.seen c.in_ok-g.ensures.saw))

pub loop-deeper-preserved : goal.loop-deeper-preserved
loop-deeper-preserved c =
    let app = applied c.args.generation c.args.units in
    let inv = c.loop-deeper.invariant in
    let saw = subst (SawIt app c.args.commands.now c.args.tables.now c.loop-deeper.frames.items) c.in-Open.is (saw_next app (applied c.loop-deeper.generation c.loop-deeper.units) inv.can.application c.args.tables.now c.args.commands.now c.as_slice.result.now c.loop-deeper.frames.items c.as_slice.ensures.value c.in_ok-g.seen c.in_ok-g.ensures.saw) in
    record {
      can = start_next app c.args.tables.now c.args.commands.now c.loop-deeper.generation c.loop-deeper.units inv.can c.in_ok-g.g c.in_ok-g.u c.in_ok-g.ensures.again;
      way = deeper_way app c.args.tables.now c.args.commands.now c.args.frames.now.items c.loop-deeper.frames.items inv.way inv.kept inv.only c.in-Open.frame saw c.push.new.self.items c.in_ok-push-in-Open.ensures.items;
      kept = deeper_kept app c.args.tables.now c.args.commands.now c.args.frames.now.items c.loop-deeper.frames.items inv.way inv.kept inv.only c.in-Open.frame saw c.push.new.self.items c.in_ok-push-in-Open.ensures.items;
      only = deeper_only app c.args.tables.now c.args.commands.now c.args.frames.now.items c.loop-deeper.frames.items inv.way inv.kept inv.only c.in-Open.frame saw c.push.new.self.items c.in_ok-push-in-Open.ensures.items;
      long = longer c.loop-deeper.frames.items c.in-Open.frame c.push.new.self.items c.in_ok-push-in-Open.ensures.items c.loop-deeper._deeper inv.long;
    }
