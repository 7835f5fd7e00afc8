use Rattle.std.proofs.Common.{◌≡◌, length, take}
use Rattle.lab_states.proofs.same.all_same.Given as goal

abbrev pub invariant-loop-at : goal.invariant-loop-at
invariant-loop-at g l = record {
  long : length l.b ≡ length l.a;
  same : take l.at l.a ≡ take l.at l.b;
}
