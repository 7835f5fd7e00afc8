use Rattle.std.proofs.Common.{◌+◌, List, ℕ, [], Bor, length, take, get_or, sym, ap, subst, arith, length-append}
use Rattle.std.specs.Prelude.{IsTrue}
use Rattle.kd_device.specs.Device.{Writes}
use Rattle.kdcfile_layout.specs.Series.{together}
use Rattle.kdcfile_layout.specs.SeriesLaws.{together_next, together_within}
use Rattle.kdcfile_layout.proofs.PartByPart.{Laid, laid_within, laid_more}
use Rattle.kdcfile_layout.proofs.series.write_parts.Goals as goal

-- what a place past the end would have
abbrev no_part : Bor (List ℕ)
no_part = record { ref_ptr = (0, 0); now = [] }

pub write_at-requires-clause-spare : goal.write_at-requires-clause-spare
write_at-requires-clause-spare g c =
    let within = together_within c.args.parts.now c.loop-part.part-index no_part c.loop-part-test.true in
    record { calls = omega (arith, c.loop-part.invariant.1.calls); bytes = omega (arith, c.loop-part.invariant.1.room, within) }

pub write_at-requires-clause-inside : goal.write_at-requires-clause-inside
write_at-requires-clause-inside g c =
    let within = together_within c.args.parts.now c.loop-part.part-index no_part c.loop-part-test.true in
    omega (arith, c.loop-part.invariant.0, c.loop-part.invariant.1.end, within)

pub overflow_add-place : goal.overflow_add-place
overflow_add-place g c =
    let within = together_within c.args.parts.now c.loop-part.part-index no_part c.loop-part-test.true in
    omega (arith, c.loop-part.invariant.0, within)

pub returns-in_err-write_at-clause-any_moment : goal.returns-in_err-write_at-clause-any_moment
returns-in_err-write_at-clause-any_moment g c = λ told.
    let so_far = together (take c.loop-part.part-index c.args.parts.now) in
    let part = (get_or c.args.parts.now c.loop-part.part-index no_part).now in
    let within = together_within c.args.parts.now c.loop-part.part-index no_part c.loop-part-test.true in
    let step : IsTrue (g.D.Device.state c.loop-part.device).told → Writes (c.args.at + length so_far) part (g.D.Device.state c.loop-part.device) (g.D.Device.state c.write_at.new.self) (g.D.Device.leaves c.loop-part.device) (g.D.Device.leaves c.write_at.new.self) c.write_at.result =
    rw (← c.loop-part.invariant.0) c.write_at.ensures.content in
    laid_within c.args.at so_far c.loop-part.part-index _ _ _ _ c.loop-part.invariant.1 part _ _ c.write_at.result step (length (together c.args.parts.now)) within told

pub loop-part-preserved : goal.loop-part-preserved
loop-part-preserved g c =
    let so_far = together (take c.loop-part.part-index c.args.parts.now) in
    let part = (get_or c.args.parts.now c.loop-part.part-index no_part).now in
    let next = together_next c.args.parts.now c.loop-part.part-index no_part c.loop-part-test.true in
    let step : IsTrue (g.D.Device.state c.loop-part.device).told → Writes (c.args.at + length so_far) part (g.D.Device.state c.loop-part.device) (g.D.Device.state c.write_at.new.self) (g.D.Device.leaves c.loop-part.device) (g.D.Device.leaves c.write_at.new.self) c.write_at.result =
    rw (← c.loop-part.invariant.0) c.write_at.ensures.content in
    let used = c.write_at.ensures.spare in (
      omega (arith, c.loop-part.invariant.0, ap (λ (l : List ℕ). length l) next, length-append so_far part),
      subst (λ (l : List ℕ). Laid c.args.at l (c.loop-part.part-index + 1) (g.D.Device.state c.args.device.now) (g.D.Device.state c.write_at.new.self) (g.D.Device.leaves c.args.device.now) (g.D.Device.leaves c.write_at.new.self)) (sym next)
          (laid_more c.args.at so_far c.loop-part.part-index _ _ _ _ c.loop-part.invariant.1 part _ _ c.write_at.result step c.write_at.ensures.frame c.write_at.ensures.names (record { disk = c.in_ok-write_at.ensures.fine; line = c.write_at.ensures.line }) used.calls used.bytes used.end
          (rw (← c.loop-part.invariant.0) (λ told. (c.in_ok-write_at.ensures.content told).holds))),
    )
