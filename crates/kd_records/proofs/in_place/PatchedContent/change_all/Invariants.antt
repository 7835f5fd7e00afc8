use Rattle.std.proofs.Common.{◌≡◌, drop}
use Rattle.kd_records.specs.Contents.{changed_all}
use Rattle.kd_records.proofs.in_place.PatchedContent.change_all.Given as goal

abbrev pub invariant-loop-one : goal.invariant-loop-one
invariant-loop-one l = record {
  content : record l.self.content { items = changed_all l.self.content.items (drop l.one-index l.changes) } ≡ record l.fn.self.content { items = changed_all l.fn.self.content.items l.changes };
  before : l.self.before ≡ l.fn.self.before;
}
