use Rattle.std.specs.Prelude.{◌↔◌, drop}
use Rattle.serial_audit.specs.Notes.{SameOnEach}
use Rattle.serial_audit.proofs.notes.same_on_each.Given as goal

abbrev pub invariant-loop-note : goal.invariant-loop-note
invariant-loop-note l = SameOnEach l.notes l.a l.b ↔ SameOnEach (drop l.note-index l.notes) l.a l.b
