use Rattle.std.proofs.Common.{◌<◌, List, get_or, length, subst, sym}
use Rattle.lab_orders.specs.declared.standing.Node.{Node}
use Rattle.lab_orders.specs.Standing.{CanReplace, IsPut}
use Rattle.lab_orders.proofs.Following.{put_behind, put_there}
use Rattle.lab_orders.proofs.standing.put.Goals as goal

pub returns-in_default : goal.returns-in_default
returns-in_default c = subst (λ (l : List Node). IsPut c.args.nodes.now.items l c.args.node) (sym c.in_ok-push.ensures.items) (put_behind c.args.nodes.now.items c.args.node)

pub returns : goal.returns
returns c =
    let there = subst (λ (l : List Node). (c.in-Some.at < length l) × CanReplace c.args.node (get_or l c.in-Some.at c.args.node)) c.as_slice-2.ensures.value c.in-Some.ensures in
    put_there c.args.nodes.now.items c.args.node c.in-Some.at there.0 there.1
