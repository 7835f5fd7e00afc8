use Rattle.std.proofs.Common.{sym, arith}
use Rattle.monitor_parts.proofs.session_table.Splitting.{parts_there, parts_nowhere}
use Rattle.monitor_parts.proofs.session_table.split.Split.at.Goals as goal

pub returns-then-byte-mark : goal.returns-then-byte-mark
returns-then-byte-mark c = parts_there c.args.mark c.args.bytes.now c.loop-at.at c.loop-at-test.true c.loop-at.invariant c.if-byte-mark.true

pub returns : goal.returns
returns c = sym (parts_nowhere c.args.mark c.args.bytes.now (λ k below is. c.loop-at.invariant k (omega arith) is))
