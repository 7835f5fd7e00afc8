use Rattle.carry_cli.proofs.Going.{is_state}
use Rattle.carry_cli.proofs.state.state_for.Goals as goal

pub returns : goal.returns
returns c =
    is_state c.args.there c.args.texts.now c.args.first c.args.second c.requires.first c.requires.second c.kind-one.result c.kind-other.result c.counting_of-counting.result c.in_ok-next.next c.said.result
    c.kind-one.ensures c.kind-other.ensures c.said.ensures c.counting_of-counting.ensures c.in_ok-next.ensures
