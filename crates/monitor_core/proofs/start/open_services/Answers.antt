use Rattle.std.specs.Prelude.{filter}
use Rattle.std.proofs.Common.{ap, sym, subst, ◌∙◌}
use Rattle.std.proofs.lemmas.Result.{on_ok_weaker}
use Rattle.kdcs_types.specs.declared.service.Service.{Service}
use Rattle.abstract_monitor.specs.Endings.{is_asynchronous}
use Rattle.service_ends.specs.Standing.{state_of}
use Rattle.service_ends.specs.Whole.{app_of}
use Rattle.monitor_core.specs.Starting.{AreFresh, all_opened}
use Rattle.monitor_core.proofs.start.open_services.Goals as goal

pub open_all-requires-clause-fresh : goal.open_all-requires-clause-fresh
open_all-requires-clause-fresh c =
    subst (AreFresh (state_of c.args.parts.now)) (sym (c.in_ok-rows.ensures ∙ ap (filter (λ (s : Service). is_asynchronous s.id)) c.services.ensures)) c.requires.fresh

pub returns-clause-state : goal.returns-clause-state
returns-clause-state c =
    on_ok_weaker c.open_all.result (λ h. h ∙ ap (all_opened (app_of c.args.parts.now) (state_of c.args.parts.now)) (c.in_ok-rows.ensures ∙ ap (filter (λ (s : Service). is_asynchronous s.id)) c.services.ensures)) c.open_all.ensures.state
