use Rattle.std.proofs.Common.{length}
use Rattle.lab_check.specs.Verdicts.{AddsOfScript}
use Rattle.lab_check.proofs.script.line_refusals.Given as goal

abbrev pub invariant-loop-rest : goal.invariant-loop-rest
invariant-loop-rest l = AddsOfScript l.fn.refused.items.items l.refused.items.items

abbrev pub decreases-loop-rest : goal.decreases-loop-rest
decreases-loop-rest l = length l.rest
