use Rattle.std.proofs.Common.{◌≡◌, ◌++◌, take}
use Rattle.std.specs.Prelude.{flat_map}
use Rattle.lab_turns.specs.TurnLines.{act_text}
use Rattle.lab_turns.proofs.lab_printing.turn_lines.put_acts.Given as goal

abbrev pub invariant-loop-act : goal.invariant-loop-act
invariant-loop-act l = l.out ≡ l.initial.out ++ flat_map (act_text l.traces) (take l.act-index l.acts)
