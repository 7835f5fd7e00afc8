use Rattle.std.proofs.Common.{◌≡◌, take}
use Rattle.kdcfile_layout.specs.Bound.{put_charge}
use Rattle.kdcfile_store.proofs.plan.put_pages.Given as goal

abbrev pub invariant-loop-change : goal.invariant-loop-change
invariant-loop-change l = l.pages ≡ put_charge l.size (take l.change-index l.changes)
