use Rattle.std.proofs.Common.{◌≡◌, ◌-◌, ◌≤◌, drop}
use Rattle.record_codec.proofs.Neighbours.{rises}
use Rattle.record_codec.proofs.ascending.ascend.Given as goal

abbrev pub invariant-loop-i : goal.invariant-loop-i
invariant-loop-i g l = record {
  from_one : 1 ≤ l.i;
  left : rises g.K.Ord.cmp (drop (l.i - 1) l.pairs) ≡ rises g.K.Ord.cmp l.pairs;
}
