use Rattle.std.specs.Prelude.{◌≡◌, ◌+◌, ◌≤◌, drop, length}
use Rattle.laws_of_states.specs.Replay.{notes_on}
use Rattle.serial_audit.proofs.notes.count_on.Given as goal

abbrev pub invariant-loop-note : goal.invariant-loop-note
invariant-loop-note l = record {
  counted : l.count + length (notes_on l.area (drop l.note-index l.notes)) ≡ length (notes_on l.area l.notes);
  few : l.count ≤ l.note-index;
}
