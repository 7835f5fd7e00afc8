use Rattle.std.proofs.Common.{◌∙◌, sym, arith}
use Rattle.monitor_parts.proofs.area_locks.Answering.{reached, nowhere, next_reaches, no_step}
use Rattle.monitor_parts.proofs.area_locks.LockTable.is_deadlocked.Goals as goal

pub returns-then-eq : goal.returns-then-eq
returns-then-eq c =
    sym (reached c.args.self.now c.args.asker.now _ c.loop.at (sym c.eq.ensures ∙ c.if-eq.true)) ∙ c.loop.invariant

pub returns-in-None : goal.returns-in-None
returns-in-None c =
    sym (
    next_reaches c.args.self.now c.args.asker.now c.len-end.result c.loop.counter c.loop.at _ c.loop-test.true (sym c.eq.ensures ∙ c.if-eq.false) (sym c.waits_for.ensures ∙ c.in-None.is)
    ∙ nowhere c.args.self.now c.args.asker.now _
    )
    ∙ c.loop.invariant

pub loop-preserved : goal.loop-preserved
loop-preserved c =
    sym (next_reaches c.args.self.now c.args.asker.now c.len-end.result c.loop.counter c.loop.at _ c.loop-test.true (sym c.eq.ensures ∙ c.if-eq.false) (sym c.waits_for.ensures ∙ c.in-Some.is))
    ∙ c.loop.invariant

pub returns : goal.returns
returns c = c.eq-2.ensures ∙ sym (no_step c.args.self.now c.args.asker.now c.len-end.result c.loop.counter c.loop.at (omega (arith, c.loop-test.false))) ∙ c.loop.invariant
