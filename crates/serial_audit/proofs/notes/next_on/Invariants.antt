use Rattle.std.specs.Prelude.{◌≡◌, length}
use Rattle.laws_of_states.specs.Replay.{notes_on}
use Rattle.serial_audit.proofs.notes.next_on.Given as goal

abbrev pub invariant-loop-note : goal.invariant-loop-note
invariant-loop-note l = notes_on l.area l.notes ≡ notes_on l.area l.rest

abbrev pub decreases-loop-note : goal.decreases-loop-note
decreases-loop-note l = length l.rest
