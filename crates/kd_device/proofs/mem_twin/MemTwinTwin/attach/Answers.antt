use Rattle.std.proofs.Common.{◌∙◌, ℕ, ap}
use Rattle.kd_device.specs.declared.kind.CallKind.TheVariants.{Attach}
use Rattle.kd_device.specs.Recording.{Recording, with_name}
use Rattle.kd_device.specs.Twin.{disk_number}
use Rattle.kd_device.proofs.Seen.{recording_same, named_apart, named_half}
use Rattle.kd_device.proofs.mem_twin.MemTwinTwin.attach.Goals as goal

pub returns-clause-names : goal.returns-clause-names
returns-clause-names c =
    let half = c.args.half in let old = c.args.self.now in let now = c.self.inside in let fails = c.fails_disk-fails.result in
    let same = recording_same half Attach fails old _ (c.self.view_is ∙ c.fails_disk-fails.ensures.counted) in
    let is = c.named.ensures ∙ ap (λ (n : ℕ). with_name now.tape n c.args.name.now) c.number.ensures.number ∙ ap (λ (r : Recording). with_name r (disk_number half) c.args.name.now) same in
    λ told. named_half half old.first.faults old.second.faults old.line.faults now.first.faults now.second.faults now.line.faults old.recording c.named.new.self c.args.name.now is

pub returns-clause-other_half : goal.returns-clause-other_half
returns-clause-other_half c =
    let half = c.args.half in let old = c.args.self.now in let now = c.self.inside in let fails = c.fails_disk-fails.result in
    let counts = c.self.view_is ∙ c.fails_disk-fails.ensures.counted in
    let same = recording_same half Attach fails old _ counts in
    let is = c.named.ensures ∙ ap (λ (n : ℕ). with_name now.tape n c.args.name.now) c.number.ensures.number ∙ ap (λ (r : Recording). with_name r (disk_number half) c.args.name.now) same in
    named_apart half Attach fails old _ c.args.name.now c.named.new.self counts is
