use Rattle.std.proofs.Common.{◌≡◌, sym, subst, arith}
use Rattle.std.specs.Prelude.{◌+◌, ◌-◌}
use Rattle.kd_base.specs.Tools.{onto_first}
use Rattle.record_codec.specs.Fields.{items}
use Rattle.audit_trail.specs.KeptReadings.{note_reading}
use Rattle.record_codec.specs.ItemsLaws.{one_more, all_read, fails_as}
use Rattle.audit_trail.proofs.kept_reading.so_many_notes.Goals as goal

pub returns-in_err-note_in : goal.returns-in_err-note_in
returns-in_err-note_in c = fails_as note_reading c.args.count c.loop.counter c.loop.notes (items note_reading c.args.count c.args.reader.now) c.loop.reader c.note_in.new.reader c.in_err-note_in.field-0.0 c.from_residual.result c.from_residual.ensures c.loop-test.true c.loop.invariant c.in_err-note_in.ensures

pub loop-preserved : goal.loop-preserved
loop-preserved c =
    subst (λ so_far. onto_first so_far (items note_reading (c.args.count - (c.loop.counter + 1)) c.note_in.new.reader) ≡ items note_reading c.args.count c.args.reader.now) (sym c.in_ok-push.ensures.ok)
    (one_more note_reading c.args.count c.loop.counter c.loop.notes (items note_reading c.args.count c.args.reader.now) c.loop.reader c.note_in.new.reader c.in_ok-note_in.field-0 c.loop-test.true c.loop.invariant c.in_ok-note_in.ensures)

pub returns : goal.returns
returns c = all_read note_reading c.args.count c.loop.counter c.loop.notes (items note_reading c.args.count c.args.reader.now) c.loop.reader (omega (arith, c.loop-test.false)) c.loop.invariant
