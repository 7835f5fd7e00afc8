use Rattle.std.proofs.Common.{ℕ, ◌+◌, drop, sym, ap, ◌∙◌}
use Rattle.device_tests.proofs.whole_store.RecordsSoFar.{ended, out_of_order, one_more, all_read, at_first}
use Rattle.device_tests.proofs.whole_store.record.records_of.Goals as goal

pub loop-init : goal.loop-init
loop-init c = at_first c.new-records.result c.args.count c.args.image.now c.new-records.ensures

pub returns-in_default : goal.returns-in_default
returns-in_default c = ended c.loop.records c.loop.previous c.args.count c.loop.counter c.loop.left.now _ c.loop-test.true c.loop.invariant (sym c.in_ok-key.ensures.value ∙ c.in_default.is)

pub returns-then-not-comes_after : goal.returns-then-not-comes_after
returns-then-not-comes_after c =
    out_of_order c.loop.records c.loop.previous c.args.count c.loop.counter c.loop.left.now _ c.loop-test.true c.loop.invariant (c.in-Some.key, c.in-Some.value) (sym c.in_ok-key.ensures.value ∙ c.in-Some.is) (sym c.if-not-comes_after.ensures)

pub loop-preserved : goal.loop-preserved
loop-preserved c =
    one_more c.loop.records c.loop.previous c.args.count c.loop.counter c.loop.left.now _ c.loop-test.true c.loop.invariant (c.in-Some.key, c.in-Some.value) (sym c.in_ok-key.ensures.value ∙ c.in-Some.is) (sym c.if-not-comes_after.ensures) c.push.new.self c.split_at.result.1.now
    c.in_ok-push.ensures.ok (c.split_at.ensures.back ∙ ap (λ (n : ℕ). drop (29 + n) c.loop.left.now) c.len.ensures)

pub returns : goal.returns
returns c = all_read c.loop.records c.loop.previous c.args.count c.loop.counter c.loop.left.now _ c.loop-test.false c.loop.invariant
