use Rattle.std.proofs.Common.{◌≡◌, ◌∙◌, ap}
use Rattle.kd_device.specs.Recording.{Recording, names_of, with_name}
use Rattle.kd_device.specs.Memory.{Memory}
use Rattle.kd_device.proofs.Grows.{named_one}
use Rattle.kd_device.proofs.mem_device.MemDeviceDevice.attach.Goals as goal

pub returns-clause-names : goal.returns-clause-names
returns-clause-names c =
    let same : c.self.inside.tape ≡ c.args.self.now.recording = ap (λ (m : Memory). m.recording) (c.self.view_is ∙ c.fails_disk-fails.ensures.counted) in
    λ _. ap (λ (r : Recording). names_of 0 r.names) (c.named.ensures ∙ ap (λ (r : Recording). with_name r 0 c.args.name.now) same) ∙ named_one 0 c.args.self.now.recording.names c.args.name.now
