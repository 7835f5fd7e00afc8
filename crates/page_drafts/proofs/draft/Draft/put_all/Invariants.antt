use Rattle.std.proofs.Common.{◌≡◌, take}
use Rattle.page_drafts.specs.DraftRuns.{PutsAll}
use Rattle.page_drafts.proofs.draft.Draft.put_all.Given as goal

abbrev pub invariant-loop-change : goal.invariant-loop-change
invariant-loop-change l = record { made : PutsAll l.size l.plan (take l.change-index l.changes) l.fn.self l.self; before : l.self.before ≡ l.fn.self.before }
