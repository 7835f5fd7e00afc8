use Rattle.std.proofs.Common.{◌∙◌, List, ℕ, subst}
use Rattle.kd_base.specs.ToolsLaws.{error_same}
use Rattle.device_acts.specs.Said.{Said}
use Rattle.call_parts.specs.Asking.{audit_errand}
use Rattle.utm_cli.specs.Doing.{own}
use Rattle.utm_cli.specs.Promise.{SaysFront}
use Rattle.utm_cli.proofs.run.audit.Goals as goal

pub returns-in_err-line-clause-refused : goal.returns-in_err-line-clause-refused
returns-in_err-line-clause-refused g c = λ why is. c.in_err-line.ensures.refused why (error_same _ _ c.from_residual.result c.in_err-line.field-0.0 _ c.from_residual.ensures.1 is)

pub returns-in_err-line-clause-failed : goal.returns-in_err-line-clause-failed
returns-in_err-line-clause-failed g c = λ is. absurd (c.in_err-line.ensures.fine (error_same _ _ c.from_residual.result c.in_err-line.field-0.0 _ c.from_residual.ensures.1 is))

pub returns-in_err-say-clause-still : goal.returns-in_err-say-clause-still
returns-in_err-say-clause-still g c = λ told none. absurd (none (own (audit_errand c.args.work.now c.args.trail) c.in_ok-line.ensures.line.0) c.in_ok-line.ensures.line.1)

pub returns-in_err-say-clause-front : goal.returns-in_err-say-clause-front
returns-in_err-say-clause-front g c = λ told.
    subst (λ (l : List ℕ). SaysFront l (g.D.Device.state c.args.device.now) (g.D.Device.state c.say.new.device) (g.D.Device.leaves c.args.device.now) (g.D.Device.leaves c.say.new.device)) (c.as_bytes.ensures.value ∙ c.in_ok-line.ensures.line.2) (record { part = c.say.ensures.part told; any_moment = c.say.ensures.any_moment told })

pub returns-clause-done : goal.returns-clause-done
returns-clause-done g c =
    let h = c.in_ok-line.ensures.line in (
      own (audit_errand c.args.work.now c.args.trail) h.0,
      h.1,
      λ told. subst (λ (l : List ℕ). Said l (g.D.Device.state c.args.device.now) (g.D.Device.state c.say.new.device)) (c.as_bytes.ensures.value ∙ h.2) (c.in_ok-say.ensures.sent told),
    )

pub returns-clause-still : goal.returns-clause-still
returns-clause-still g c = λ told none. absurd (none (own (audit_errand c.args.work.now c.args.trail) c.in_ok-line.ensures.line.0) c.in_ok-line.ensures.line.1)

pub returns-clause-front : goal.returns-clause-front
returns-clause-front g c = λ told.
    subst (λ (l : List ℕ). SaysFront l (g.D.Device.state c.args.device.now) (g.D.Device.state c.say.new.device) (g.D.Device.leaves c.args.device.now) (g.D.Device.leaves c.say.new.device)) (c.as_bytes.ensures.value ∙ c.in_ok-line.ensures.line.2) (record { part = c.say.ensures.part told; any_moment = c.say.ensures.any_moment told })
