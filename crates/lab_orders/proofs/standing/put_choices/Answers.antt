use Rattle.std.proofs.Common.{◌<◌, List, ◌∷◌, ◌∙◌, arith, length, subst, sym}
use Rattle.abstract_monitor.specs.Commands.{started}
use Rattle.abstract_monitor.specs.State.{Application}
use Rattle.laws_of_runs.specs.Applied.{applied}
use Rattle.lab_states.specs.OutlinesLaws.{outlines_tell_states}
use Rattle.lab_walks.specs.declared.frame.Frame.{Frame}
use Rattle.lab_walks.specs.AheadLaws.{arrived_stand_for}
use Rattle.lab_walks.specs.Frames.{IsWay, turns_in}
use Rattle.lab_orders.specs.declared.standing.Node.{Node}
use Rattle.lab_orders.specs.Alike.{IsKeyedIf}
use Rattle.lab_orders.specs.Standing.{AreInPlace}
use Rattle.lab_orders.proofs.Finding.{start_again, start_next}
use Rattle.lab_orders.proofs.Following.{choice_more, choice_way, choices_follow, place_more, place_none, place_put}
use Rattle.lab_orders.proofs.standing.put_choices.Goals as goal

pub loop-at-init : goal.loop-at-init
loop-at-init c = record {
  can = c.requires.start;
  place = place_none (applied c.args.generation c.args.units) c.args.tables.now c.args.commands.now c.args.nodes.now.items c.requires.nodes;
  each = λ k less. absurd (omega (arith, less));
}

pub key_of-requires-clause-start : goal.key_of-requires-clause-start
key_of-requires-clause-start c = start_again (applied c.args.generation c.args.units) c.args.tables.now c.args.commands.now c.loop-at.generation c.loop-at.units c.loop-at.invariant.can

pub key_of-requires-clause-way : goal.key_of-requires-clause-way
key_of-requires-clause-way c =
    let app = applied c.args.generation c.args.units in
    let t = c.args.tables.now in
    let cs = c.args.commands.now in
    let less : c.loop-at.at < length c.args.last.now.choices = omega (arith, c.len-at-end.ensures) in
    subst (λ (a : Application). IsWay a cs (started a t) c.as_slice.result.now) (sym c.loop-at.invariant.can.application)
    (subst (IsWay app cs (started app t)) (sym (c.as_slice.ensures ∙ c.in_ok-deeper.ensures)) (choice_way app t cs c.args.frames.now c.args.last.now c.requires.last c.requires.way c.loop-at.at less))

pub loop-at-preserved : goal.loop-at-preserved
loop-at-preserved c =
    let app = applied c.args.generation c.args.units in
    let t = c.args.tables.now in
    let cs = c.args.commands.now in
    let inv = c.loop-at.invariant in
    let frames = c.args.frames.now in
    let last = c.args.last.now in
    let less : c.loop-at.at < length last.choices = omega (arith, c.len-at-end.ensures) in
    let node : Node = record { frames = c.in_ok-deeper.deeper; key = c.in_ok-g.key } in
    let old = c.loop-at.nodes.items in
    let new = c.put.new.nodes.items in
    let way = choice_way app t cs frames last c.requires.last c.requires.way c.loop-at.at less in
    let keyed = subst (λ (x : Application × List Frame). IsKeyedIf x.0 t cs (turns_in x.1) c.in_ok-g.key) (λ i. (inv.can.application i, c.as_slice.ensures i)) c.in_ok-g.ensures.keyed in
    let after : AreInPlace app t cs (node ∷ old) new = place_put arrived_stand_for outlines_tell_states app t cs old new node inv.place.are (record { way = subst (IsWay app cs (started app t)) (sym c.in_ok-deeper.ensures) way; keyed = keyed }) c.in_ok-put.ensures in
    record {
      can = start_next app t cs c.loop-at.generation c.loop-at.units inv.can c.in_ok-g.g c.in_ok-g.u c.in_ok-g.ensures.again;
      place = place_more app t cs c.args.nodes.now.items old new node inv.place after;
      each = choice_more app t cs frames last c.requires.last old new node c.loop-at.at inv.each after c.in_ok-deeper.ensures;
    }

pub returns-clause-nodes : goal.returns-clause-nodes
returns-clause-nodes c = c.loop-at.invariant.place

pub returns-clause-followed : goal.returns-clause-followed
returns-clause-followed c =
    choices_follow (applied c.args.generation c.args.units) c.args.tables.now c.args.commands.now c.args.frames.now c.args.last.now c.requires.last c.loop-at.nodes.items
    (λ at less. c.loop-at.invariant.each at (omega (arith, less, c.len-at-end.ensures)))
