use Rattle.std.proofs.Common.{refl}
use Rattle.call_parts.specs.Asking.{update_errand}
use Rattle.kd_device.specs.TimeLaws.{told_after}
use Rattle.utm_cli.proofs.Refused.{carry_refused}
use Rattle.utm_cli.proofs.Updated.{still_then, judged_then, updated_then, cut_then, written_then, left_then}
use Rattle.utm_cli.proofs.run.update_over.Goals as goal

pub returns-in_err-update-clause-refused : goal.returns-in_err-update-clause-refused
returns-in_err-update-clause-refused g c = λ why is told.
    carry_refused _ _ c.from_residual-in_err-update.result c.in_err-update.field-0.0 why c.from_residual-in_err-update.ensures.1 is (update_errand c.args.work.now) (g.D.Device.state c.args.device.now).holds
    (λ cause so.
    judged_then (update_errand c.args.work.now) (update_errand c.args.work.now) refl _ _ (g.D.Device.state c.update.new.device) _ _ (g.D.Device.leaves c.update.new.device) (c.attach.ensures.rests told) cause
    (c.in_err-update.ensures.refused cause so (told_after _ _ c.attach.ensures.frame told)))

pub returns-in_err-update-clause-any_moment : goal.returns-in_err-update-clause-any_moment
returns-in_err-update-clause-any_moment g c = λ told only s takes.
    cut_then (update_errand c.args.work.now) (update_errand c.args.work.now) refl _ _ _ _ _ _ (c.attach.ensures.rests told) only s takes (c.update.ensures.any_moment (told_after _ _ c.attach.ensures.frame told))

pub returns-in_err-update-clause-written : goal.returns-in_err-update-clause-written
returns-in_err-update-clause-written g c = λ told.
    written_then (update_errand c.args.work.now) (update_errand c.args.work.now) refl _ _ _ _ _ (g.D.Device.leaves c.update.new.device) (c.attach.ensures.rests told) (c.update.ensures.written (told_after _ _ c.attach.ensures.frame told))

pub returns-in_err-update-clause-left : goal.returns-in_err-update-clause-left
returns-in_err-update-clause-left g c = λ told s takes own_texts.
    left_then (update_errand c.args.work.now) (update_errand c.args.work.now) refl _ _ _ _ _ (g.D.Device.leaves c.update.new.device) (c.attach.ensures.rests told) s takes own_texts (c.update.ensures.left (told_after _ _ c.attach.ensures.frame told))

pub returns-clause-done : goal.returns-clause-done
returns-clause-done g c = λ told.
    updated_then (update_errand c.args.work.now) (update_errand c.args.work.now) refl _ _ _ _ _ _ (c.attach.ensures.rests told) (c.in_ok-update.ensures.done (told_after _ _ c.attach.ensures.frame told))

pub returns-clause-still : goal.returns-clause-still
returns-clause-still g c = λ told.
    still_then (update_errand c.args.work.now) (update_errand c.args.work.now) refl _ _ _ _ _ _ (c.attach.ensures.rests told) (c.update.ensures.still (told_after _ _ c.attach.ensures.frame told))

pub returns-clause-any_moment : goal.returns-clause-any_moment
returns-clause-any_moment g c = λ told only s takes.
    cut_then (update_errand c.args.work.now) (update_errand c.args.work.now) refl _ _ _ _ _ _ (c.attach.ensures.rests told) only s takes (c.update.ensures.any_moment (told_after _ _ c.attach.ensures.frame told))

pub returns-clause-written : goal.returns-clause-written
returns-clause-written g c = λ told.
    written_then (update_errand c.args.work.now) (update_errand c.args.work.now) refl _ _ _ _ _ (g.D.Device.leaves c.update.new.device) (c.attach.ensures.rests told) (c.update.ensures.written (told_after _ _ c.attach.ensures.frame told))

pub returns-clause-left : goal.returns-clause-left
returns-clause-left g c = λ told s takes own_texts.
    left_then (update_errand c.args.work.now) (update_errand c.args.work.now) refl _ _ _ _ _ (g.D.Device.leaves c.update.new.device) (c.attach.ensures.rests told) s takes own_texts (c.update.ensures.left (told_after _ _ c.attach.ensures.frame told))
