use Rattle.std.proofs.Common.{◌∙◌, ap, refl, true, length, Ok}
use Rattle.kd_device.specs.History.{Emitted}
use Rattle.kd_device.specs.Recording.{Recording, with_event}
use Rattle.kd_device.specs.Memory.{OfOne}
use Rattle.kd_device.specs.declared.device.Failed.{Failed}
use Rattle.kd_device.proofs.Grows.{emitted}
use Rattle.kd_device.proofs.Seen.{of_one}
use Rattle.kd_device.proofs.sure.SureDeviceDevice.emit.Goals as goal

pub returns-clause-content : goal.returns-clause-content
returns-clause-content c =
    let is = c.emitted.ensures ∙ ap (λ (r : Recording). with_event r (Emitted c.args.piece.now true) (length c.args.piece.now)) c.self.view_is in
    λ _. emitted 0 OfOne of_one 0 0 0 0 c.args.self.now c.emitted.new.self (length c.args.piece.now) {E = Failed} c.args.piece.now true (Ok tt) is refl
