use Rattle.std.proofs.Common.{◌≡◌, ◌++◌, take, All}
use Rattle.std.specs.Prelude.{flat_map}
use Rattle.audit_trail.specs.Printed.{entry_lines}
use Rattle.audit_trail.specs.Written.{AreEntryBytes}
use Rattle.trail_run.proofs.trail_words.trailing.put_entries.Given as goal

abbrev pub invariant-loop-entry : goal.invariant-loop-entry
invariant-loop-entry l = record {
  lines : l.out ≡ l.initial.out ++ flat_map entry_lines (take l.entry-index l.entries);
  bytes : All AreEntryBytes (take l.entry-index l.entries);
}
