use Rattle.std.proofs.Common.{arith}
use Rattle.call_parts.proofs.MadeTexts.{begins, one_round, ends}
use Rattle.call_parts.proofs.made_input.input.script.Goals as goal

pub loop-done-init : goal.loop-done-init
loop-done-init c = begins c.args.n c.in_ok-out.out c.in_ok-out.ensures

pub loop-done-preserved : goal.loop-done-preserved
loop-done-preserved c = one_round c.args.n c.loop-done.done c.loop-done.out c.put_round.new.out c.loop-done-test.true c.in_ok-put_round.ensures c.loop-done.invariant

pub returns : goal.returns
returns c = ends c.args.n c.loop-done.done c.loop-done.out (omega arith) c.loop-done.invariant
