use Rattle.std.proofs.Common.{◌≡◌, arith, refl, get_or}
use Rattle.std.specs.Prelude.{true, false, ◌==◌}
use Rattle.lab_orders.proofs.Placing.{front_ends, front_more, front_whole}
use Rattle.lab_orders.proofs.lines.before_blank.Goals as goal

pub returns-then-byte-eq32 : goal.returns-then-byte-eq32
returns-then-byte-eq32 c =
    let e : (get_or c.args.text.now c.loop-at.at 0 == 32) ≡ true = grind (arith, c.if-byte-eq32.true) in
    front_ends c.args.text.now c.loop-at.at (get_or c.args.text.now c.loop-at.at 0) refl c.loop-at-test.true c.loop-at.invariant e

pub loop-at-preserved : goal.loop-at-preserved
loop-at-preserved c =
    let e : (get_or c.args.text.now c.loop-at.at 0 == 32) ≡ false = grind (arith, c.if-byte-eq32.false) in
    front_more c.args.text.now c.loop-at.at (get_or c.args.text.now c.loop-at.at 0) refl c.loop-at-test.true c.loop-at.invariant e

pub returns : goal.returns
returns c = front_whole c.args.text.now c.loop-at.at (omega arith) c.loop-at.invariant
