use Rattle.std.proofs.Common.{ap}
use Rattle.kdcfile_double.specs.Twice.{Twice}
use Rattle.kdcfile_double.specs.Mended.{lost_at}
use Rattle.kdcfile_double.proofs.store.TwinStore.lose.Goals as goal

pub returns : goal.returns
returns c = record { lost = ap (λ (s : Twice). lost_at c.args.half s) c.self.view_is }
