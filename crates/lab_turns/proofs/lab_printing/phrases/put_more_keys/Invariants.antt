use Rattle.std.proofs.Common.{◌≡◌, ◌++◌, take}
use Rattle.std.specs.Prelude.{flat_map}
use Rattle.lab_turns.specs.Phrases.{next_key_text}
use Rattle.lab_turns.proofs.lab_printing.phrases.put_more_keys.Given as goal

abbrev pub invariant-loop-change : goal.invariant-loop-change
invariant-loop-change l = l.out ≡ l.initial.out ++ flat_map next_key_text (take l.change-index l.changes)
