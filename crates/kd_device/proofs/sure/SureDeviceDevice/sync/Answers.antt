use Rattle.std.proofs.Common.{◌∙◌, ap, refl, true, Ok}
use Rattle.kd_device.specs.History.{Synced}
use Rattle.kd_device.specs.Recording.{Recording, with_event}
use Rattle.kd_device.specs.Memory.{OfOne}
use Rattle.kd_device.specs.declared.device.Failed.{Failed}
use Rattle.kd_device.proofs.Grows.{synced, all_durable}
use Rattle.kd_device.proofs.Seen.{of_one}
use Rattle.kd_device.proofs.sure.SureDeviceDevice.sync.Goals as goal

pub returns-clause-content : goal.returns-clause-content
returns-clause-content c =
    let is = c.synced.ensures ∙ ap (λ (r : Recording). with_event r (Synced 0 true) 0) c.self.view_is in
    λ _. synced 0 OfOne of_one 0 0 0 0 c.args.self.now c.synced.new.self 0 true is

pub returns-clause-durable : goal.returns-clause-durable
returns-clause-durable c =
    let is = c.synced.ensures ∙ ap (λ (r : Recording). with_event r (Synced 0 true) 0) c.self.view_is in
    all_durable 0 OfOne of_one 0 0 0 0 c.args.self.now c.synced.new.self 0 {E = Failed} true (Ok tt) is refl
