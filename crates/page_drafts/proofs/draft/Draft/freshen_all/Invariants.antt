use Rattle.std.proofs.Common.{◌≡◌, ℕ, ◌≤◌, length}
use Rattle.page_drafts.specs.Drafting.{stale_pages}
use Rattle.page_drafts.specs.DraftRuns.{Freshens}
use Rattle.page_drafts.proofs.draft.Draft.freshen_all.Given as goal

abbrev pub invariant-loop-k : goal.invariant-loop-k
invariant-loop-k l = record {
  made : (n : ℕ) × (n ≤ length l.fn.self.layout.directory) × Freshens l.size l.plan n l.fn.self l.self;
  before : l.self.before ≡ l.fn.self.before;
}

abbrev pub decreases-loop-k : goal.decreases-loop-k
decreases-loop-k l = stale_pages l.self
