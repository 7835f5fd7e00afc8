use Rattle.std.proofs.Common.{◌≡◌, true}
use Rattle.kdcfile_layout.specs.Pools.{flagged}
use Rattle.kdcfile_layout.specs.Fresh.{numbers}
use Rattle.kdcfile_store.proofs.fresh.mark_first.Given as goal

abbrev pub invariant-loop-page : goal.invariant-loop-page
invariant-loop-page l = l.pool ≡ flagged true l.initial.pool (numbers l.page)
