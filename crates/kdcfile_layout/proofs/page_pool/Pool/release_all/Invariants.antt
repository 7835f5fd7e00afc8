use Rattle.std.proofs.Common.{◌≡◌, ◌-◌, false, drop, length}
use Rattle.kdcfile_layout.specs.Pools.{flagged}
use Rattle.kdcfile_layout.proofs.page_pool.Pool.release_all.Given as goal

abbrev pub invariant-loop-n : goal.invariant-loop-n
invariant-loop-n l = l.self ≡ flagged false l.fn.self (drop (length l.pages - l.n) l.pages)
