use Rattle.std.proofs.Common.{◌≡◌, true, take}
use Rattle.kdcfile_layout.specs.Pools.{flagged}
use Rattle.kdcfile_layout.proofs.page_pool.Pool.mark_all.Given as goal

abbrev pub invariant-loop-page : goal.invariant-loop-page
invariant-loop-page l = l.self ≡ flagged true l.fn.self (take l.page-index l.pages)
