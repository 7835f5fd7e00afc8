use Rattle.kdcfile_layout.proofs.page_pool.Widening.{same_flag}
use Rattle.kdcfile_layout.proofs.page_pool.Pool.copy_mark.Goals as goal

pub returns-else-used : goal.returns-else-used
returns-else-used c = rw c.if-used.false (same_flag c.args.page c.args.self.now _ c.requires.free)
