use Rattle.call_parts.proofs.EmittedLines.{emits_are_lines}
use Rattle.call_parts.proofs.made_input.laws.emits_are_lines.Goals as goal

pub returns : goal.returns
returns c = emits_are_lines (c.facts_hold_along.ensures.steps c.states_stay_sound.ensures)
