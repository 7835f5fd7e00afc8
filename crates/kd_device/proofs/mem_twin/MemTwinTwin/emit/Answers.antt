use Rattle.std.proofs.Common.{◌≡◌, ◌∙◌, ap, not, length, arith}
use Rattle.kd_device.specs.declared.half.Half.TheVariants.{First}
use Rattle.kd_device.specs.History.{Emitted}
use Rattle.kd_device.specs.Recording.{Recording, with_event}
use Rattle.kd_device.specs.TwinMemory.{TwinMemory}
use Rattle.kd_device.proofs.Seen.{both_kept, emitted_half, parted_half}
use Rattle.kd_device.proofs.mem_twin.MemTwinTwin.emit.Goals as goal

pub emitted-requires-clause-calls : goal.emitted-requires-clause-calls
emitted-requires-clause-calls c = omega (arith, (c.requires First).calls, ap (λ (m : TwinMemory). m.recording.spare_calls) (c.self.view_is ∙ c.fails_line-fails.ensures.counted))

pub emitted-requires-clause-bytes : goal.emitted-requires-clause-bytes
emitted-requires-clause-bytes c = omega (arith, (c.requires First).bytes, ap (λ (m : TwinMemory). m.recording.spare_bytes) (c.self.view_is ∙ c.fails_line-fails.ensures.counted))

pub returns-clause-disk : goal.returns-clause-disk
returns-clause-disk c =
    let old = c.args.self.now in let now = c.self.inside in let fails = c.fails_line-fails.result in
    let counts = c.self.view_is ∙ c.fails_line-fails.ensures.counted in
    let same : now.tape ≡ old.recording = ap (λ (m : TwinMemory). m.recording) counts in
    let is = c.emitted.ensures ∙ ap (λ (r : Recording). with_event r (Emitted c.args.piece.now (not fails)) (length c.args.piece.now)) same in
    both_kept fails old _ c.args.piece.now (not fails) c.emitted.new.self (length c.args.piece.now) counts is

pub returns-clause-spare : goal.returns-clause-spare
returns-clause-spare c =
    let old = c.args.self.now in let now = c.self.inside in let fails = c.fails_line-fails.result in
    let counts = c.self.view_is ∙ c.fails_line-fails.ensures.counted in
    let same : now.tape ≡ old.recording = ap (λ (m : TwinMemory). m.recording) counts in
    let is = c.emitted.ensures ∙ ap (λ (r : Recording). with_event r (Emitted c.args.piece.now (not fails)) (length c.args.piece.now)) same in
    λ half. record {
      calls = omega (arith, (c.requires First).calls, ap (λ (r : Recording). r.spare_calls) is);
      bytes = omega (arith, (c.requires First).bytes, ap (λ (r : Recording). r.spare_bytes) is);
      end = ap (λ (r : Recording). r.spare_end) is;
    }

pub returns-clause-content : goal.returns-clause-content
returns-clause-content c =
    let old = c.args.self.now in let now = c.self.inside in let fails = c.fails_line-fails.result in
    let counts = c.self.view_is ∙ c.fails_line-fails.ensures.counted in
    let same : now.tape ≡ old.recording = ap (λ (m : TwinMemory). m.recording) counts in
    let is = c.emitted.ensures ∙ ap (λ (r : Recording). with_event r (Emitted c.args.piece.now (not fails)) (length c.args.piece.now)) same in
    λ told half d. emitted_half old.first.faults old.second.faults old.line.faults now.first.faults now.second.faults now.line.faults old.recording c.emitted.new.self (length c.args.piece.now) d half c.args.piece.now (not fails) c.answer.result is c.answer.ensures

pub returns-clause-parted : goal.returns-clause-parted
returns-clause-parted c =
    let old = c.args.self.now in let now = c.self.inside in let fails = c.fails_line-fails.result in
    let counts = c.self.view_is ∙ c.fails_line-fails.ensures.counted in
    let same : now.tape ≡ old.recording = ap (λ (m : TwinMemory). m.recording) counts in
    let is = c.emitted.ensures ∙ ap (λ (r : Recording). with_event r (Emitted c.args.piece.now (not fails)) (length c.args.piece.now)) same in
    λ told half d. parted_half old.first.faults old.second.faults old.line.faults now.first.faults now.second.faults now.line.faults old.recording c.emitted.new.self (length c.args.piece.now) d half c.args.piece.now (not fails) is
