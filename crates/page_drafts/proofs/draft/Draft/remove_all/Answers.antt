use Rattle.std.proofs.Common.{◌∙◌}
use Rattle.page_drafts.specs.DraftRunsLaws.{removes_more}
use Rattle.page_drafts.proofs.draft.Draft.remove_all.Goals as goal

pub loop-change-preserved : goal.loop-change-preserved
loop-change-preserved c = record {
  made = removes_more c.args.size c.requires.size _ _ _ c.args.changes.now c.loop-change.change-index c.change-item.result c.change-item.is c.loop-change-test.true c.loop-change.invariant.made c.in_ok-remove_change.ensures.ok;
  before = c.remove_change.ensures.before ∙ c.loop-change.invariant.before;
}
