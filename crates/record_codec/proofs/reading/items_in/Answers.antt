use Rattle.std.proofs.Common.{◌≡◌, sym, subst, arith}
use Rattle.std.specs.Prelude.{◌+◌, ◌-◌}
use Rattle.kd_base.specs.Tools.{onto_first}
use Rattle.record_codec.specs.Fields.{items}
use Rattle.record_codec.specs.ItemsLaws.{one_more, all_read, fails_as}
use Rattle.record_codec.proofs.reading.items_in.Goals as goal

pub returns-in_err-read : goal.returns-in_err-read
returns-in_err-read g c = fails_as g.T.Item.reading c.args.count c.loop.counter c.loop.items (items g.T.Item.reading c.args.count c.args.reader.now) c.loop.reader c.read.new.reader c.in_err-read.field-0.0 c.from_residual.result c.from_residual.ensures c.loop-test.true c.loop.invariant c.in_err-read.ensures

pub loop-preserved : goal.loop-preserved
loop-preserved g c =
    subst (λ so_far. onto_first so_far (items g.T.Item.reading (c.args.count - (c.loop.counter + 1)) c.read.new.reader) ≡ items g.T.Item.reading c.args.count c.args.reader.now) (sym c.in_ok-push.ensures.ok)
    (one_more g.T.Item.reading c.args.count c.loop.counter c.loop.items (items g.T.Item.reading c.args.count c.args.reader.now) c.loop.reader c.read.new.reader c.in_ok-read.field-0 c.loop-test.true c.loop.invariant c.in_ok-read.ensures)

pub returns : goal.returns
returns g c = all_read g.T.Item.reading c.args.count c.loop.counter c.loop.items (items g.T.Item.reading c.args.count c.args.reader.now) c.loop.reader (omega (arith, c.loop-test.false)) c.loop.invariant
