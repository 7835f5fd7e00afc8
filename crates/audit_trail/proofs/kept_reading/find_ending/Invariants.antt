use Rattle.std.proofs.Common.{◌≡◌, drop}
use Rattle.std.specs.Prelude.{find, ◌==◌}
use Rattle.audit_trail.specs.Kept.{ending_byte}
use Rattle.audit_trail.proofs.kept_reading.find_ending.Given as goal

abbrev pub invariant-loop-ending : goal.invariant-loop-ending
invariant-loop-ending l = find (λ ending. ending_byte ending == l.number) (drop l.ending-index l.endings) ≡ find (λ ending. ending_byte ending == l.number) l.endings
