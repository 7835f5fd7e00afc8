use Rattle.std.proofs.Common.{arith}
use Rattle.texts.proofs.kdcdef_lex.Reading.{kept_on}
use Rattle.texts.proofs.kdcdef_lex.read.read_text.Goals as goal

pub loop-statements-preserved : goal.loop-statements-preserved
loop-statements-preserved c = record {
  so_far = kept_on c.loop-statements.statements c.push.new.self c.loop-statements.number c.loop-statements.rest.now c.in-Some.after.now c.in-Some.group c.in_ok-_statement._statement _
      (rw c.in-Some.is at c.in_ok-group.ensures.group) c.in_ok-_statement.ensures (rw c.as_slice.ensures at c.in_ok-push.ensures) c.loop-statements.invariant.so_far;
  bounded = omega (arith, rw c.in-Some.is at c.in_ok-group.ensures.bounded, c.loop-statements.invariant.bounded);
  short = c.loop-statements.invariant.short;
}
