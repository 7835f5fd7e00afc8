use Rattle.std.proofs.Common.{◌≡◌, length, take}
use Rattle.std.specs.Prelude.{map}
use Rattle.kdcs_types.specs.declared.service.Settled.{Settled}
use Rattle.lab_states.proofs.kept.have_same_counts.Given as goal

abbrev pub invariant-loop-at : goal.invariant-loop-at
invariant-loop-at l = record {
  long : length l.b ≡ length l.a;
  same : map (λ (k : Settled). k.statements) (take l.at l.a) ≡ map (λ (k : Settled). k.statements) (take l.at l.b);
}
