use Rattle.kdcfile_layout.specs.Pools.{IsCountedDown}
use Rattle.kdcfile_layout.proofs.page_pool.numbers.Given as goal

abbrev pub invariant-loop-n : goal.invariant-loop-n
invariant-loop-n l = IsCountedDown l.out.items l.count l.n
