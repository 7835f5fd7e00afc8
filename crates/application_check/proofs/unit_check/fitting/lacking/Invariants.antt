use Rattle.std.proofs.Common.{◌≡◌, drop}
use Rattle.application_check.specs.Finding.{lacking}
use Rattle.application_check.proofs.unit_check.fitting.lacking.Given as goal

abbrev pub invariant-loop-i : goal.invariant-loop-i
invariant-loop-i l = lacking l.units (drop l.i l.programs.entries) ≡ lacking l.units l.generation.programs
