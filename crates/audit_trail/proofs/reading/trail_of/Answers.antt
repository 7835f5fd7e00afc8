use Rattle.std.proofs.Common.{◌+◌, sym, ap, ◌∙◌, arith}
use Rattle.std.specs.Str.Lines.{lines}
use Rattle.audit_trail.specs.declared.place.Place.{Place}
use Rattle.audit_trail.specs.Places.{after_line, then_from, trail_from}
use Rattle.audit_trail.specs.SaidLaws.{after_keeps}
use Rattle.audit_trail.proofs.Steps.{found_at, fails}
use Rattle.audit_trail.proofs.reading.trail_of.Goals as goal

pub returns-in_err-place : goal.returns-in_err-place
returns-in_err-place c =
    let n = c.loop-rest.number in
    let rest = lines c.next_line.result.1.now in
    fails n (after_line c.loop-rest.place c.next_line.result.0.now) (λ (next : Place). trail_from next (n + 1) rest) c.in_err-place.field-0.0 c.from_residual.result _ c.from_residual.ensures
    (sym (ap (trail_from c.loop-rest.place n) c.next_line.ensures.lines) ∙ c.loop-rest.invariant.so_far) c.in_err-place.ensures

pub loop-rest-preserved : goal.loop-rest-preserved
loop-rest-preserved c =
    let n = c.loop-rest.number in
    let rest = lines c.next_line.result.1.now in
    let found = found_at n (after_line c.loop-rest.place c.next_line.result.0.now) c.in_ok-place.place c.in_ok-place.ensures in
    record {
      so_far = sym (ap (trail_from c.loop-rest.place n) c.next_line.ensures.lines ∙ ap (λ o. then_from n o (λ (next : Place). trail_from next (n + 1) rest)) found) ∙ c.loop-rest.invariant.so_far;
      ordered = after_keeps c.loop-rest.place c.next_line.result.0.now c.in_ok-place.place c.loop-rest.invariant.ordered found;
      bounded = omega (arith, c.next_line.ensures.shorter, c.loop-rest.invariant.bounded);
    }
