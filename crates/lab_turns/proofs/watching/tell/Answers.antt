use Rattle.std.proofs.Common.{[], ◌∷◌, List, subst}
use Rattle.std.proofs.lemmas.Result.{IfOk-weaker}
use Rattle.kdcs_types.specs.declared.act.Act.{Act}
use Rattle.lab_turns.specs.Heard.{Turned as HeardTurn}
use Rattle.lab_turns.proofs.watching.tell.Goals as goal

pub returns : goal.returns
returns g c =
    IfOk-weaker c.turn.result _ _
    (λ _ heard. (c.in_ok-view.view, subst (λ (acts : List Act). g.L.Listener.hears c.args.listener.now (HeardTurn c.in_ok-view.view c.args.core.now.state acts ∷ []) c.turn.new.self) c.as_slice.ensures heard))
    c.turn.ensures
