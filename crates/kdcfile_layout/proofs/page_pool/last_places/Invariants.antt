use Rattle.kdcfile_layout.specs.Pools.{AreLast}
use Rattle.kdcfile_layout.proofs.page_pool.last_places.Given as goal

abbrev pub invariant-loop-n : goal.invariant-loop-n
invariant-loop-n l = AreLast l.order.items l.free l.n l.out.items
