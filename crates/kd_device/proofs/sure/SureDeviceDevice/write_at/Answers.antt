use Rattle.std.proofs.Common.{◌∙◌, ap, refl, true, length, Ok}
use Rattle.kd_device.specs.History.{Wrote}
use Rattle.kd_device.specs.Recording.{Recording, with_event}
use Rattle.kd_device.specs.Memory.{OfOne}
use Rattle.kd_device.specs.declared.device.Failed.{Failed}
use Rattle.kd_device.proofs.Grows.{wrote}
use Rattle.kd_device.proofs.Seen.{of_one}
use Rattle.kd_device.proofs.sure.SureDeviceDevice.write_at.Goals as goal

pub returns-clause-content : goal.returns-clause-content
returns-clause-content c =
    let is = c.wrote.ensures ∙ ap (λ (r : Recording). with_event r (Wrote 0 c.args.at c.args.bytes.now true) (length c.args.bytes.now)) c.self.view_is in
    λ _. wrote 0 OfOne of_one 0 0 0 0 c.args.self.now c.wrote.new.self (length c.args.bytes.now) {E = Failed} c.args.at c.args.bytes.now true (Ok tt) is refl
