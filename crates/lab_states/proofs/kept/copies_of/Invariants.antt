use Rattle.std.proofs.Common.{◌≡◌, take}
use Rattle.lab_states.proofs.kept.copies_of.Given as goal

abbrev pub invariant-loop-note : goal.invariant-loop-note
invariant-loop-note l = l.copies ≡ take l.note-index l.notes
