use Rattle.service_parts.proofs.unit_step.Comparing.{from_place}
use Rattle.service_parts.proofs.unit_step.compare.compared.Given as goal

abbrev pub invariant-loop-i : goal.invariant-loop-i
invariant-loop-i l = from_place l.a l.b l.i
