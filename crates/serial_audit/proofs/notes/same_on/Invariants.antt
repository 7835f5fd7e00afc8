use Rattle.std.specs.Prelude.{◌≡◌, ◌↔◌, drop}
use Rattle.laws_of_states.specs.Replay.{notes_on}
use Rattle.serial_audit.proofs.notes.same_on.Given as goal

abbrev pub invariant-loop-note : goal.invariant-loop-note
invariant-loop-note l = (notes_on l.area l.a ≡ notes_on l.area l.b) ↔ (notes_on l.area (drop l.note-index l.a) ≡ notes_on l.area l.rest)
