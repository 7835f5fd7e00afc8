use Rattle.std.proofs.Common.{◌≡◌, sym, subst, arith}
use Rattle.std.specs.Prelude.{◌+◌, ◌-◌}
use Rattle.kd_base.specs.Tools.{onto_first}
use Rattle.record_codec.specs.Fields.{items, list_field}
use Rattle.record_codec.specs.ItemsLaws.{one_more, all_read, fails_as}
use Rattle.audit_trail.proofs.kept_reading.so_many_inputs.Goals as goal

pub returns-in_err-list_in : goal.returns-in_err-list_in
returns-in_err-list_in c = fails_as list_field c.args.count c.loop.counter c.loop.inputs (items list_field c.args.count c.args.reader.now) c.loop.reader c.list_in.new.reader c.in_err-list_in.field-0.0 c.from_residual.result c.from_residual.ensures c.loop-test.true c.loop.invariant c.in_err-list_in.ensures

pub loop-preserved : goal.loop-preserved
loop-preserved c =
    subst (λ so_far. onto_first so_far (items list_field (c.args.count - (c.loop.counter + 1)) c.list_in.new.reader) ≡ items list_field c.args.count c.args.reader.now) (sym c.in_ok-push.ensures.ok)
    (one_more list_field c.args.count c.loop.counter c.loop.inputs (items list_field c.args.count c.args.reader.now) c.loop.reader c.list_in.new.reader c.in_ok-list_in.field-0 c.loop-test.true c.loop.invariant c.in_ok-list_in.ensures)

pub returns : goal.returns
returns c = all_read list_field c.args.count c.loop.counter c.loop.inputs (items list_field c.args.count c.args.reader.now) c.loop.reader (omega (arith, c.loop-test.false)) c.loop.invariant
