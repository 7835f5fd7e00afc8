use Rattle.std.proofs.Common.{arith, ◌∙◌}
use Rattle.abstract_monitor.specs.Contents.{compared}
use Rattle.service_parts.proofs.unit_step.Comparing.{decided, goes_on}
use Rattle.service_parts.proofs.unit_step.compare.compared.Goals as goal

pub returns-then-x-y : goal.returns-then-x-y
unfolding compared
returns-then-x-y c =
    c.cmp.ensures ∙ decided c.args.a.now c.args.b.now c.loop-i.i c.byte_at-x.result c.byte_at-y.result c.loop-i.invariant (omega arith) c.byte_at-x.ensures c.byte_at-y.ensures c.if-x-y.true

pub loop-i-preserved : goal.loop-i-preserved
loop-i-preserved c =
    goes_on c.args.a.now c.args.b.now c.loop-i.i c.byte_at-x.result c.byte_at-y.result c.loop-i.invariant (omega arith) c.byte_at-x.ensures c.byte_at-y.ensures c.if-x-y.false
