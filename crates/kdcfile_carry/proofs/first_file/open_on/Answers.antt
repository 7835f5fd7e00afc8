use Rattle.std.proofs.Common.{sym, subst}
use Rattle.std.specs.Prelude.{IsTrue}
use Rattle.kd_device.specs.Twin.{half_state}
use Rattle.device_acts.specs.Stands.{StandsForNoTables}
use Rattle.kdcfile_carry.proofs.first_file.open_on.Goals as goal

pub returns-clause-none : goal.returns-clause-none
returns-clause-none g c = λ is told.
    subst (λ t. StandsForNoTables (half_state g.O.HalfOrigin.half (g.T.Twin.both t)).holds) c.new-device.ensures
    (c.open_any-opened.ensures.refused is (subst (λ t. IsTrue (g.T.Twin.both t).told) (sym c.new-device.ensures) told))
