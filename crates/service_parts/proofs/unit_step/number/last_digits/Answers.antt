use Rattle.abstract_monitor.specs.Contents.{in_digits}
use Rattle.std.proofs.Common.{ℕ, length, arith, ◌∙◌, ap, length-set}
use Rattle.service_parts.proofs.unit_step.Digits.{written_down, left_down, all_written}
use Rattle.service_parts.proofs.unit_step.number.last_digits.Goals as goal

pub loop-place-preserved : goal.loop-place-preserved
loop-place-preserved c =
    rw (length-set) (record {
      within = omega arith;
      left = left_down c.args.number (length c.loop-place.into) c.loop-place.place c.loop-place.left (omega arith) c.loop-place.invariant.within c.loop-place.invariant.left;
      written = written_down c.loop-place.into _ c.loop-place.place c.loop-place.left (omega arith) c.loop-place.invariant.within c.loop-place.invariant.written;
    })

pub returns-clause-digits : goal.returns-clause-digits
returns-clause-digits c =
    all_written c.loop-place.into _ c.loop-place.place c.loop-place.left (omega arith) c.loop-place.invariant.written ∙ ap (λ (n : ℕ). in_digits n c.args.number) c.loop-place.auto.into
