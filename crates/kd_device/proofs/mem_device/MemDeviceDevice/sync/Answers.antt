use Rattle.std.proofs.Common.{◌≡◌, ◌∙◌, ap, not}
use Rattle.kd_device.specs.History.{Synced}
use Rattle.kd_device.specs.Recording.{Recording, with_event}
use Rattle.kd_device.specs.Memory.{Memory, OfOne}
use Rattle.kd_device.proofs.Grows.{synced, all_durable}
use Rattle.kd_device.proofs.Seen.{of_one}
use Rattle.kd_device.proofs.mem_device.MemDeviceDevice.sync.Goals as goal

pub returns-clause-content : goal.returns-clause-content
returns-clause-content c =
    let old = c.args.self.now in let now = c.self.inside in let done = not c.fails_disk-fails.result in
    let same : now.tape ≡ old.recording = ap (λ (m : Memory). m.recording) (c.self.view_is ∙ c.fails_disk-fails.ensures.counted) in
    let is = c.synced.ensures ∙ ap (λ (r : Recording). with_event r (Synced 0 done) 0) same in
    λ _. synced 0 OfOne of_one old.disk.faults old.line.faults now.disk.faults now.line.faults old.recording c.synced.new.self 0 done is

pub returns-clause-durable : goal.returns-clause-durable
returns-clause-durable c =
    let old = c.args.self.now in let now = c.self.inside in let done = not c.fails_disk-fails.result in
    let same : now.tape ≡ old.recording = ap (λ (m : Memory). m.recording) (c.self.view_is ∙ c.fails_disk-fails.ensures.counted) in
    let is = c.synced.ensures ∙ ap (λ (r : Recording). with_event r (Synced 0 done) 0) same in
    all_durable 0 OfOne of_one old.disk.faults old.line.faults now.disk.faults now.line.faults old.recording c.synced.new.self 0 done c.answer.result is c.answer.ensures
