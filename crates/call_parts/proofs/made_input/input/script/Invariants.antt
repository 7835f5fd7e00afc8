use Rattle.std.proofs.Common.{◌≡◌, ◌++◌, ◌+◌, ◌-◌}
use Rattle.call_parts.specs.MadeTexts.{script_text}
use Rattle.call_parts.proofs.MadeTexts.{rounds_left}
use Rattle.call_parts.proofs.made_input.input.script.Given as goal

abbrev pub invariant-loop-done : goal.invariant-loop-done
invariant-loop-done l = l.out ++ rounds_left l.n (l.n - l.done) (l.done + 1) ≡ script_text l.n
