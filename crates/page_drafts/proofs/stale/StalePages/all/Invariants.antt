use Rattle.std.proofs.Common.{◌≡◌, ℕ, ◌<◌, true, length}
use Rattle.kdcfile_layout.specs.Places.{At}
use Rattle.page_drafts.proofs.stale.StalePages.all.Given as goal

abbrev pub invariant-loop-page : goal.invariant-loop-page
invariant-loop-page l = record {
  length : length l.pages ≡ l.count;
  marked : (k : ℕ) → k < l.page → At l.pages k true;
}
