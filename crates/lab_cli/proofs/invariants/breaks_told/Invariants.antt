use Rattle.std.proofs.Common.{◌≡◌, ◌++◌, ◌+◌, drop}
use Rattle.lab_cli.specs.Invariants.{all_breaks_text}
use Rattle.lab_cli.proofs.invariants.breaks_told.Given as goal

abbrev pub invariant-loop-outcome : goal.invariant-loop-outcome
invariant-loop-outcome l = record {
  number : l.number ≡ l.outcome-index + 1;
  told : l.out ++ all_breaks_text l.script l.number (drop l.outcome-index l.outcomes) ≡ all_breaks_text l.script 1 l.outcomes;
}
