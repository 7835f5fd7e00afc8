use Rattle.std.proofs.Common.{◌≡◌, ◌++◌, take}
use Rattle.std.specs.Prelude.{flat_map}
use Rattle.lab_turns.specs.TurnLines.{area_line}
use Rattle.lab_turns.proofs.lab_printing.turn_lines.put_area_lines.Given as goal

abbrev pub invariant-loop-area : goal.invariant-loop-area
invariant-loop-area l = l.out ≡ l.initial.out ++ flat_map (area_line l.word) (take l.area-index l.areas)
