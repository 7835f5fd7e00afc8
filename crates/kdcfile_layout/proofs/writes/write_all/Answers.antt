use Rattle.std.proofs.Common.{length, ap, arith, List, ℕ}
use Rattle.std.specs.Prelude.{IsTrue}
use Rattle.kd_device.specs.Device.{Writes}
use Rattle.kdcfile_layout.proofs.Several.{stages_more, writing_more}
use Rattle.kdcfile_layout.proofs.writes.write_all.Goals as goal

pub returns-in_err-write_at-clause-any_moment : goal.returns-in_err-write_at-clause-any_moment
returns-in_err-write_at-clause-any_moment g c =
    let b = g.D.Device.state c.loop-write.device in
    let w = c.write-item.result in
    let step : IsTrue b.told → Writes w.at w.bytes b (g.D.Device.state c.write_at.new.self) (g.D.Device.leaves c.loop-write.device) (g.D.Device.leaves c.write_at.new.self) c.write_at.result = rw (← c.as_slice.ensures) c.write_at.ensures.content in
    stages_more c.args.writes.now c.loop-write.write-index w c.write-item.is c.loop-write-test.true _ b _ _ c.loop-write.invariant _ _ c.write_at.result step

pub loop-write-preserved : goal.loop-write-preserved
loop-write-preserved g c =
    let b = g.D.Device.state c.loop-write.device in
    let w = c.write-item.result in
    let step : IsTrue b.told → Writes w.at w.bytes b (g.D.Device.state c.write_at.new.self) (g.D.Device.leaves c.loop-write.device) (g.D.Device.leaves c.write_at.new.self) c.write_at.result = rw (← c.as_slice.ensures) c.write_at.ensures.content in
    let used = c.write_at.ensures.spare in
    writing_more c.args.writes.now c.loop-write.write-index w c.write-item.is c.loop-write-test.true _ b _ _ c.loop-write.invariant _ _ c.write_at.result step c.write_at.ensures.frame c.write_at.ensures.names (record { disk = c.in_ok-write_at.ensures.fine; line = c.write_at.ensures.line }) used.calls
    (omega (arith, used.bytes, ap (λ (l : List ℕ). length l) c.as_slice.ensures)) used.end
    (λ told. rw (← c.as_slice.ensures) ((c.in_ok-write_at.ensures.content told).holds))
