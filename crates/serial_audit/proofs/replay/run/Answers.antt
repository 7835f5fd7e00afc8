use Rattle.std.proofs.Common.{arith, subst}
use Rattle.open_transaction.specs.Transactions.{transaction_of}
use Rattle.serial_audit.specs.Replaying.{WentOn}
use Rattle.serial_audit.proofs.Runs.{not_determined, ran_more}
use Rattle.serial_audit.proofs.replay.run.Goals as goal

pub go_on-requires-clause-goes : goal.go_on-requires-clause-goes
go_on-requires-clause-goes c = c.loop-done.invariant.goes

pub go_on-requires-clause-statements : goal.go_on-requires-clause-statements
go_on-requires-clause-statements c = omega (arith, c.loop-done.invariant.counted, c.loop-done-test.true, c.requires.few)

pub loop-done-preserved : goal.loop-done-preserved
loop-done-preserved c =
    let p = c.args.replay.now in
    let x = transaction_of c.loop-done.transaction in
    let y = transaction_of c.go_on.new.transaction in
    record {
      ran = ran_more p c.loop-done._done x y c.loop-done.invariant.ran (subst (WentOn p x y) c.if-not-branch.false c.in_ok-go_on.ensures.went);
      goes = c.in_ok-go_on.ensures.goes c.if-not-branch.false;
      counted = omega (arith, c.in_ok-go_on.ensures.counted c.if-not-branch.false, c.loop-done.invariant.counted);
    }

pub returns-then-not-branch-clause-stopped : goal.returns-then-not-branch-clause-stopped
returns-then-not-branch-clause-stopped c =
    let p = c.args.replay.now in
    let x = transaction_of c.loop-done.transaction in
    let y = transaction_of c.go_on.new.transaction in
    λ stopped. not_determined p c.loop-done._done x y c.loop-done-test.true c.loop-done.invariant.ran (subst (WentOn p x y) c.if-not-branch.true c.in_ok-go_on.ensures.went)
