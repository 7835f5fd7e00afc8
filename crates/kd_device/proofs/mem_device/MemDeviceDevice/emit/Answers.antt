use Rattle.std.proofs.Common.{◌≡◌, ◌∙◌, ap, not, length}
use Rattle.kd_device.specs.History.{Emitted}
use Rattle.kd_device.specs.Recording.{Recording, with_event}
use Rattle.kd_device.specs.Memory.{Memory, OfOne}
use Rattle.kd_device.proofs.Grows.{emitted}
use Rattle.kd_device.proofs.Seen.{of_one}
use Rattle.kd_device.proofs.mem_device.MemDeviceDevice.emit.Goals as goal

pub returns-clause-content : goal.returns-clause-content
returns-clause-content c =
    let old = c.args.self.now in let now = c.self.inside in let done = not c.fails_line-fails.result in
    let same : now.tape ≡ old.recording = ap (λ (m : Memory). m.recording) (c.self.view_is ∙ c.fails_line-fails.ensures.counted) in
    let is = c.emitted.ensures ∙ ap (λ (r : Recording). with_event r (Emitted c.args.piece.now done) (length c.args.piece.now)) same in
    λ _. emitted 0 OfOne of_one old.disk.faults old.line.faults now.disk.faults now.line.faults old.recording c.emitted.new.self (length c.args.piece.now) c.args.piece.now done c.answer.result is c.answer.ensures
