use Rattle.std.proofs.Common.{ℕ, ◌<◌, Bool, true, false, List, length, subst}
use Rattle.std.specs.Prelude.{slice_index_or}
use Rattle.kdcfile_layout.specs.Places.{At}
use Rattle.page_drafts.specs.StaleLaws.{first_read, lesser_read, none_read}
use Rattle.page_drafts.proofs.stale.StalePages.first.Goals as goal

pub returns-in-empty-clause-none : goal.returns-in-empty-clause-none
returns-in-empty-clause-none c =
    subst (λ (l : List Bool). (j : ℕ) → j < length l → At l j false) c.self.view_is
    (none_read c.self.inside.count c.as_slice.result.now c.self.inside.stale c.as_slice.ensures.pairs c.in-empty.len_below)

pub returns-in-len1-up-clause-stale : goal.returns-in-len1-up-clause-stale
returns-in-len1-up-clause-stale c =
    subst (λ (l : List Bool). At l (slice_index_or c.as_slice.result.now 0 (0, tt {0})).0 true) c.self.view_is
    (first_read c.self.inside.count c.as_slice.result.now c.self.inside.stale _ c.as_slice.ensures.pairs c.in-len1-up.len_at_least c.self.invariant)

pub returns-in-len1-up-clause-first : goal.returns-in-len1-up-clause-first
returns-in-len1-up-clause-first c =
    subst (λ (l : List Bool). (j : ℕ) → j < (slice_index_or c.as_slice.result.now 0 (0, tt {0})).0 → At l j false) c.self.view_is
    (lesser_read c.self.inside.count c.as_slice.result.now c.self.inside.stale _ c.as_slice.ensures.pairs c.in-len1-up.len_at_least c.as_slice.ensures.ascending c.self.invariant)
