use Rattle.std.proofs.Common.{◌≡◌, ◌∙◌}
use Rattle.std.proofs.lemmas.Result.{IfOk-weaker}
use Rattle.abstract_monitor.specs.Commands.{use_now}
use Rattle.abstract_monitor.specs.Sessions.{use_of}
use Rattle.service_ends.specs.Standing.{state_of}
use Rattle.service_ends.specs.Whole.{app_of}
use Rattle.monitor_core.proofs.Signs.{meant_signed, meant_unsigned}
use Rattle.monitor_core.proofs.input.use_of.Goals as goal
use Rattle.monitor_core.proofs.input.use_of.Goals.{in-Some, in-None}

pub returns : goal.returns
returns c =
    let p = c.args.parts.now in
    let same : use_of p.generation (state_of p).signed c.match-user_at.state c.args.pterm.now c.args.text.now ≡ use_now (app_of p) (state_of p) c.args.pterm.now c.args.text.now = elim c.match-user_at.branch [
      | in-Some w ↦ meant_signed p c.args.pterm.now c.args.text.now w.in-Some.user c.match-user_at.state w.in-Some.ensures (w.state-is ∙ w.service_state-state.ensures)
      | in-None w ↦ meant_unsigned p c.args.pterm.now c.args.text.now c.match-user_at.state w.in-None.ensures
    ] in
    IfOk-weaker c.use_of.result _ _ (λ u e. e ∙ same) c.use_of.ensures.ok
