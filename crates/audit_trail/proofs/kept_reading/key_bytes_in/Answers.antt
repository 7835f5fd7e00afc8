use Rattle.std.proofs.Common.{◌≡◌, List, ℕ, take, sym, subst, ap, ◌∙◌, arith}
use Rattle.std.specs.Prelude.{◌+◌, ◌-◌, Some, Option}
use Rattle.std.proofs.lemmas.List.{length-set, take_all, take_more_set}
use Rattle.std.specs.Int.{w8}
use Rattle.kd_base.specs.Tools.{onto_first}
use Rattle.record_codec.specs.Fields.{items, number_field}
use Rattle.record_codec.specs.ItemsLaws.{one_more, all_read, fails_as}
use Rattle.audit_trail.specs.KeptReadings.{key_field}
use Rattle.audit_trail.proofs.kept_reading.key_bytes_in.Goals as goal

pub returns-in_err-bytes : goal.returns-in_err-bytes
returns-in_err-bytes c =
    fails_as (number_field w8) 24 c.loop-i.i (take c.loop-i.i c.loop-i.bytes) (key_field c.args.reader.now) c.loop-i.reader c.u8_in.new.reader c.in_err-bytes.field-0.0 c.from_residual.result c.from_residual.ensures
    c.loop-i-test.true c.loop-i.invariant.so_far c.in_err-bytes.ensures

pub loop-i-preserved : goal.loop-i-preserved
loop-i-preserved c = record {
  long = length-set c.loop-i.bytes c.loop-i.i c.in_ok-bytes.field-0 ∙ c.loop-i.invariant.long;
  so_far =
      subst (λ (front : List ℕ). onto_first front (items (number_field w8) (24 - (c.loop-i.i + 1)) c.u8_in.new.reader) ≡ key_field c.args.reader.now)
      (sym (take_more_set c.loop-i.bytes c.loop-i.i c.in_ok-bytes.field-0 (omega (arith, c.loop-i.invariant.long, c.loop-i-test.true))))
      (one_more (number_field w8) 24 c.loop-i.i (take c.loop-i.i c.loop-i.bytes) (key_field c.args.reader.now) c.loop-i.reader c.u8_in.new.reader c.in_ok-bytes.field-0 c.loop-i-test.true c.loop-i.invariant.so_far c.in_ok-bytes.ensures);
}

pub returns : goal.returns
returns c =
    all_read (number_field w8) 24 c.loop-i.i (take c.loop-i.i c.loop-i.bytes) (key_field c.args.reader.now) c.loop-i.reader (omega (arith, c.loop-i-test.false)) c.loop-i.invariant.so_far
    ∙ ap (λ (l : List ℕ). let o : Option (List ℕ × List ℕ) = Some (l, c.loop-i.reader) in o) (take_all c.loop-i.i c.loop-i.bytes (omega (arith, c.loop-i.invariant.long, c.loop-i-test.false)))
