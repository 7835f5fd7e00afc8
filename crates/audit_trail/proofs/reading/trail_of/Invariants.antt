use Rattle.std.proofs.Common.{◌≡◌, ◌+◌, ◌≤◌, length}
use Rattle.std.specs.Str.Lines.{lines}
use Rattle.audit_trail.specs.declared.place.Place.TheVariants.{First}
use Rattle.audit_trail.specs.Facts.{IsOrdered}
use Rattle.audit_trail.specs.Places.{trail_from}
use Rattle.audit_trail.proofs.reading.trail_of.Given as goal

abbrev pub invariant-loop-rest : goal.invariant-loop-rest
invariant-loop-rest l = record {
  so_far : trail_from l.place l.number (lines l.rest) ≡ trail_from First 1 (lines l.text);
  ordered : IsOrdered l.place;
  bounded : l.number + length l.rest ≤ 1 + length l.text;
}

abbrev pub decreases-loop-rest : goal.decreases-loop-rest
decreases-loop-rest l = length l.rest
