use Rattle.std.proofs.Common.{◌∙◌, ℕ, ap, not}
use Rattle.kd_device.specs.declared.kind.CallKind.TheVariants.{Sync}
use Rattle.kd_device.specs.History.{Synced}
use Rattle.kd_device.specs.Recording.{Recording, with_event}
use Rattle.kd_device.specs.Twin.{disk_number}
use Rattle.kd_device.proofs.Seen.{recording_same, its_synced, synced_half, durable_halves}
use Rattle.kd_device.proofs.mem_twin.MemTwinTwin.sync.Goals as goal

pub returns-clause-content : goal.returns-clause-content
returns-clause-content c =
    let half = c.args.half in let old = c.args.self.now in let now = c.self.inside in let fails = c.fails_disk-fails.result in
    let counts = c.self.view_is ∙ c.fails_disk-fails.ensures.counted in
    let same = recording_same half Sync fails old _ counts in
    let is = c.synced.ensures ∙ ap (λ (n : ℕ). with_event now.tape (Synced n (not fails)) 0) c.number.ensures.number ∙ ap (λ (r : Recording). with_event r (Synced (disk_number half) (not fails)) 0) same in
    λ told d. synced_half old.first.faults old.second.faults old.line.faults now.first.faults now.second.faults now.line.faults old.recording c.synced.new.self 0 d half (not fails) is

pub returns-clause-durable : goal.returns-clause-durable
returns-clause-durable c =
    let half = c.args.half in let old = c.args.self.now in let now = c.self.inside in let fails = c.fails_disk-fails.result in
    let counts = c.self.view_is ∙ c.fails_disk-fails.ensures.counted in
    let same = recording_same half Sync fails old _ counts in
    let is = c.synced.ensures ∙ ap (λ (n : ℕ). with_event now.tape (Synced n (not fails)) 0) c.number.ensures.number ∙ ap (λ (r : Recording). with_event r (Synced (disk_number half) (not fails)) 0) same in
    durable_halves old.first.faults old.second.faults old.line.faults now.first.faults now.second.faults now.line.faults old.recording c.synced.new.self 0 half (not fails) c.answer.result is c.answer.ensures

pub returns-clause-other_half : goal.returns-clause-other_half
returns-clause-other_half c =
    let half = c.args.half in let old = c.args.self.now in let now = c.self.inside in let fails = c.fails_disk-fails.result in
    let counts = c.self.view_is ∙ c.fails_disk-fails.ensures.counted in
    let same = recording_same half Sync fails old _ counts in
    let is = c.synced.ensures ∙ ap (λ (n : ℕ). with_event now.tape (Synced n (not fails)) 0) c.number.ensures.number ∙ ap (λ (r : Recording). with_event r (Synced (disk_number half) (not fails)) 0) same in
    its_synced half Sync fails old _ c.synced.new.self counts (not fails) 0 is
