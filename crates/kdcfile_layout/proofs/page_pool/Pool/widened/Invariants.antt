use Rattle.std.proofs.Common.{◌≡◌}
use Rattle.kdcfile_layout.proofs.page_pool.Widening.{copied}
use Rattle.kdcfile_layout.proofs.page_pool.Pool.widened.Given as goal

abbrev pub invariant-loop-page : goal.invariant-loop-page
invariant-loop-page l = l.pool ≡ copied l.page l.pages l.self-inside.used.items
