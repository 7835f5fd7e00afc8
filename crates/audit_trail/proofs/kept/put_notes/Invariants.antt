use Rattle.std.proofs.Common.{◌≡◌, ◌++◌, take}
use Rattle.std.specs.Prelude.{flat_map}
use Rattle.audit_trail.specs.Kept.{note_bytes}
use Rattle.audit_trail.proofs.kept.put_notes.Given as goal

abbrev pub invariant-loop-note : goal.invariant-loop-note
invariant-loop-note l = l.out ≡ l.initial.out ++ flat_map note_bytes (take l.note-index l.notes)
