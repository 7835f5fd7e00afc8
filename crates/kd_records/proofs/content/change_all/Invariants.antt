use Rattle.std.proofs.Common.{◌≡◌, drop}
use Rattle.kd_records.specs.Contents.{changed_all}
use Rattle.kd_records.proofs.content.change_all.Given as goal

abbrev pub invariant-loop-one : goal.invariant-loop-one
invariant-loop-one l = changed_all l.records.items (drop l.one-index l.changes) ≡ changed_all l.initial.records.items l.changes
