use Rattle.std.proofs.Common.{◌∙◌, ℕ, ap, not, length, arith}
use Rattle.kd_device.specs.declared.kind.CallKind.TheVariants.{Write}
use Rattle.kd_device.specs.History.{Wrote}
use Rattle.kd_device.specs.Recording.{Recording, with_event}
use Rattle.kd_device.specs.Twin.{disk_number}
use Rattle.kd_device.proofs.Grows.{later}
use Rattle.kd_device.proofs.Seen.{recording_same, its_wrote, wrote_half, counted_frame}
use Rattle.kd_device.proofs.mem_twin.MemTwinTwin.write_at.Goals as goal

pub returns-clause-content : goal.returns-clause-content
returns-clause-content c =
    let half = c.args.half in let old = c.args.self.now in let now = c.self.inside in let fails = c.fails_disk-fails.result in
    let counts = c.self.view_is ∙ c.fails_disk-fails.ensures.counted in
    let same = recording_same half Write fails old _ counts in
    let is = c.wrote.ensures ∙ ap (λ (n : ℕ). with_event now.tape (Wrote n c.args.at c.args.bytes.now (not fails)) (length c.args.bytes.now)) c.number.ensures.number ∙ ap (λ (r : Recording). with_event r (Wrote (disk_number half) c.args.at c.args.bytes.now (not fails)) (length c.args.bytes.now)) same in
    λ told d. wrote_half old.first.faults old.second.faults old.line.faults now.first.faults now.second.faults now.line.faults old.recording c.wrote.new.self (length c.args.bytes.now) d half c.args.at c.args.bytes.now (not fails) c.answer.result is c.answer.ensures

pub returns-clause-other_half : goal.returns-clause-other_half
returns-clause-other_half c =
    let half = c.args.half in let old = c.args.self.now in let now = c.self.inside in let fails = c.fails_disk-fails.result in
    let counts = c.self.view_is ∙ c.fails_disk-fails.ensures.counted in
    let same = recording_same half Write fails old _ counts in
    let is = c.wrote.ensures ∙ ap (λ (n : ℕ). with_event now.tape (Wrote n c.args.at c.args.bytes.now (not fails)) (length c.args.bytes.now)) c.number.ensures.number ∙ ap (λ (r : Recording). with_event r (Wrote (disk_number half) c.args.at c.args.bytes.now (not fails)) (length c.args.bytes.now)) same in
    its_wrote half Write fails old _ c.wrote.new.self counts c.args.at c.args.bytes.now (not fails) (length c.args.bytes.now) is

pub returns-clause-frame : goal.returns-clause-frame
returns-clause-frame c =
    let half = c.args.half in let old = c.args.self.now in let now = c.self.inside in let fails = c.fails_disk-fails.result in
    let counts = c.self.view_is ∙ c.fails_disk-fails.ensures.counted in
    let same = recording_same half Write fails old _ counts in
    let is = c.wrote.ensures ∙ ap (λ (n : ℕ). with_event now.tape (Wrote n c.args.at c.args.bytes.now (not fails)) (length c.args.bytes.now)) c.number.ensures.number ∙ ap (λ (r : Recording). with_event r (Wrote (disk_number half) c.args.at c.args.bytes.now (not fails)) (length c.args.bytes.now)) same in
    counted_frame half Write fails old _ c.wrote.new.self counts (later old.recording (Wrote (disk_number half) c.args.at c.args.bytes.now (not fails)) c.wrote.new.self (length c.args.bytes.now) is)

pub returns-clause-spare : goal.returns-clause-spare
returns-clause-spare c =
    let half = c.args.half in let old = c.args.self.now in let now = c.self.inside in let fails = c.fails_disk-fails.result in
    let counts = c.self.view_is ∙ c.fails_disk-fails.ensures.counted in
    let same = recording_same half Write fails old _ counts in
    let is = c.wrote.ensures ∙ ap (λ (n : ℕ). with_event now.tape (Wrote n c.args.at c.args.bytes.now (not fails)) (length c.args.bytes.now)) c.number.ensures.number ∙ ap (λ (r : Recording). with_event r (Wrote (disk_number half) c.args.at c.args.bytes.now (not fails)) (length c.args.bytes.now)) same in
    record {
      calls = omega (arith, c.requires.spare.calls, ap (λ (r : Recording). r.spare_calls) is);
      bytes = omega (arith, c.requires.spare.bytes, ap (λ (r : Recording). r.spare_bytes) is);
      end = ap (λ (r : Recording). r.spare_end) is;
    }
