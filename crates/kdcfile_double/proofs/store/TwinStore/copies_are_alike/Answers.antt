use Rattle.std.proofs.Common.{subst}
use Rattle.kdcfile_double.specs.Twice.{IsTwice}
use Rattle.kdcfile_double.proofs.store.TwinStore.copies_are_alike.Goals as goal

pub returns : goal.returns
returns c = subst IsTwice c.self.view_is c.self.invariant
