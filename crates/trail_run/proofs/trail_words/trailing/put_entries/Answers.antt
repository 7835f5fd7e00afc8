use Rattle.std.proofs.Common.{subst, arith}
use Rattle.std.proofs.lemmas.Grind.{common_steps}
use Rattle.std.proofs.lemmas.List.Elements.{All-more}
use Rattle.audit_trail.specs.Written.{AreEntryBytes}
use Rattle.trail_run.proofs.trail_words.trailing.put_entries.Goals as goal

pub loop-entry-preserved : goal.loop-entry-preserved
loop-entry-preserved c = record {
  lines = grind (arith, common_steps);
  bytes =
      All-more AreEntryBytes c.args.entries.now c.loop-entry.entry-index c.entry-item.result c.loop-entry-test.true c.loop-entry.invariant.bytes
      (subst AreEntryBytes c.entry-item.is c.in_ok-lines.ensures.bytes);
}
