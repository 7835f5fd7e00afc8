use Rattle.std.specs.Prelude.{◌≡◌, drop}
use Rattle.laws_of_states.specs.Replay.{notes_on}
use Rattle.serial_audit.proofs.notes.first_unused.Given as goal

abbrev pub invariant-loop : goal.invariant-loop
invariant-loop l = notes_on l.area l.rest ≡ drop l.counter (notes_on l.area l.record.notes)
