use Rattle.std.proofs.Common.{ap, sym, ◌∙◌}
use Rattle.abstract_monitor.specs.Commands.{with_session}
use Rattle.service_ends.specs.ChangesLaws.{first_last}
use Rattle.service_ends.specs.Standing.{state_of}
use Rattle.service_ends.proofs.core_state.parts.MonitorParts.sign_on.Goals as goal

pub returns-in-Some-clause-state : goal.returns-in-Some-clause-state
returns-in-Some-clause-state c =
    first_last (state_of c.args.self.now) c.args.pterm.now c.args.user.now c.in-Some.message _ _ c.in_ok-sign_on.ensures.ok c.set_last.ensures
    ∙ ap (with_session (state_of c.args.self.now) c.args.pterm.now c.args.user.now) (sym c.in-Some.is)
