use Rattle.std.proofs.Common.{◌≡◌, ◌∙◌, ap, not, length}
use Rattle.kd_device.specs.History.{Wrote}
use Rattle.kd_device.specs.Recording.{Recording, with_event}
use Rattle.kd_device.specs.Memory.{Memory, OfOne}
use Rattle.kd_device.proofs.Grows.{wrote}
use Rattle.kd_device.proofs.Seen.{of_one}
use Rattle.kd_device.proofs.mem_device.MemDeviceDevice.write_at.Goals as goal

pub returns-clause-content : goal.returns-clause-content
returns-clause-content c =
    let old = c.args.self.now in let now = c.self.inside in let done = not c.fails_disk-fails.result in
    let same : now.tape ≡ old.recording = ap (λ (m : Memory). m.recording) (c.self.view_is ∙ c.fails_disk-fails.ensures.counted) in
    let is = c.wrote.ensures ∙ ap (λ (r : Recording). with_event r (Wrote 0 c.args.at c.args.bytes.now done) (length c.args.bytes.now)) same in
    λ _. wrote 0 OfOne of_one old.disk.faults old.line.faults now.disk.faults now.line.faults old.recording c.wrote.new.self (length c.args.bytes.now) c.args.at c.args.bytes.now done c.answer.result is c.answer.ensures
