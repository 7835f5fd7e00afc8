use Rattle.std.proofs.Common.{take}
use Rattle.page_drafts.specs.DraftRuns.{PutsAll}
use Rattle.page_drafts.specs.WholeDrafts.{puts_of}
use Rattle.page_drafts.proofs.draft.Draft.put_records.Given as goal

abbrev pub invariant-loop-record : goal.invariant-loop-record
invariant-loop-record l = PutsAll l.size l.plan (puts_of (take l.record-index l.records)) l.fn.self l.self
