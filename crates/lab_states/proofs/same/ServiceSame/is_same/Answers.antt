use Rattle.std.proofs.Common.{sym, ◌∙◌}
use Rattle.lab_states.proofs.Sameness.{service_same}
use Rattle.lab_states.proofs.same.ServiceSame.is_same.Goals as goal

pub returns : goal.returns
returns c = λ same. service_same c.args.self.now c.args.other.now (sym c.same_service.ensures ∙ same)
