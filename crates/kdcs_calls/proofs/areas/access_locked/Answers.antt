use Rattle.kdcs_types.specs.Tables.{content_of}
use Rattle.abstract_monitor.specs.State.{OpenTransaction as Transaction}
use Rattle.kdcs_calls.specs.Parts.{held}
use Rattle.kdcs_calls.proofs.areas.access_locked.Goals as goal

pub returns-in-Err-clause-exact : goal.returns-in-Err-clause-exact
returns-in-Err-clause-exact c = rw (c.in-Err.is, c.replied.ensures)

pub returns-in-Some-clause-exact : goal.returns-in-Some-clause-exact
returns-in-Some-clause-exact c =
    rw c.in-Ok.is
    (rw c.in-Some.is at (c.in_ok-called.ensures.exact (λ (y : Transaction). held c.args.access (content_of c.args.outside.now.tables.now c.in-Ok.area) y c.in-Ok.area)))
