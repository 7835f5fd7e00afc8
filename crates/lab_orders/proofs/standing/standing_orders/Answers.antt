use Rattle.std.proofs.Common.{[], ◌∷◌, ◌++◌, List, ap, refl, ◌∙◌}
use Rattle.std.specs.Prelude.{None}
use Rattle.laws_of_runs.specs.Applied.{applied}
use Rattle.lab_orders.specs.declared.standing.Node.{Node}
use Rattle.lab_orders.proofs.Finding.{start_again}
use Rattle.lab_orders.proofs.Following.{follow_start}
use Rattle.lab_orders.proofs.standing.standing_orders.Goals as goal

pub loop-turn-init : goal.loop-turn-init
loop-turn-init c =
    let node : Node = record { frames = c.new.result; key = None } in
    record {
      can = c.requires;
      followed =
          follow_start (applied c.args.generation c.args.units) c.args.tables.now c.args.commands.now c.args.most c.new-outcomes.result.items c.push.new.self.items node c.new-outcomes.ensures.items
          (c.in_ok-push.ensures.items ∙ ap (λ (l : List Node). l ++ node ∷ []) c.new-layer.ensures.items) c.new.ensures refl;
    }

pub next_layer-requires-clause-start : goal.next_layer-requires-clause-start
next_layer-requires-clause-start c = start_again (applied c.args.generation c.args.units) c.args.tables.now c.args.commands.now c.loop-turn.generation c.loop-turn.units c.loop-turn.invariant.can
