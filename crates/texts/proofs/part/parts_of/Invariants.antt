use Rattle.std.proofs.Common.{◌≡◌, ◌-◌}
use Rattle.kd_base.specs.Tools.{onto}
use Rattle.texts.specs.Parts.{parts_within, parts_of}
use Rattle.texts.proofs.part.parts_of.Given as goal

abbrev pub invariant-loop : goal.invariant-loop
invariant-loop g l = onto l.parts.items (parts_within g.P.Part.part_at (l.end - l.counter) l.rest) ≡ parts_of g.P.Part.part_at l.line
