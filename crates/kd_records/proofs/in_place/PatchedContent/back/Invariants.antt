use Rattle.std.proofs.Common.{◌≡◌, ◌+◌, ◌≤◌, IsTrue, vec_len, vec_capacity}
use Rattle.std.specs.FinMap.{is_sorted}
use Rattle.kd_records.specs.Keys.{key_cmp}
use Rattle.kd_records.specs.InPlace.{undone}
use Rattle.kd_records.proofs.in_place.PatchedContent.back.Given as goal

abbrev pub invariant-loop-key : goal.invariant-loop-key
invariant-loop-key l = record {
  ascending : IsTrue (is_sorted key_cmp l.records.items);
  room : vec_len l.records + vec_len l.undo ≤ vec_capacity l.records;
  before : undone l.undo.items l.records.items ≡ undone l.initial.undo.items l.initial.records.items;
}

abbrev pub decreases-loop-key : goal.decreases-loop-key
decreases-loop-key l = goal.left-loop-key l
