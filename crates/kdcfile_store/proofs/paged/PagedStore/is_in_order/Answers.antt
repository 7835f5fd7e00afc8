use Rattle.std.proofs.Common.{subst}
use Rattle.kdcfile_store.specs.Paged.{IsPaged}
use Rattle.kdcfile_store.proofs.paged.PagedStore.is_in_order.Goals as goal

pub returns : goal.returns
returns c = subst IsPaged c.self.view_is c.self.invariant
