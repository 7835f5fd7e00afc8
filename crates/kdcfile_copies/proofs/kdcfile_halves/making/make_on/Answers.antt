use Rattle.std.proofs.Common.{sym, subst}
use Rattle.std.specs.Prelude.{IsTrue}
use Rattle.kd_device.specs.Twin.{half_state, half_leaves}
use Rattle.kdcfile_copies.specs.Keeping.{LeavesNoCopy}
use Rattle.kdcfile_copies.proofs.kdcfile_halves.making.make_on.Goals as goal

pub make_copy-made-requires-clause-at_rest : goal.make_copy-made-requires-clause-at_rest
make_copy-made-requires-clause-at_rest g c = rw c.new-device.ensures c.requires.at_rest

pub returns-clause-memory : goal.returns-clause-memory
returns-clause-memory g c = λ is told.
    subst (λ t. LeavesNoCopy (half_state g.O.HalfOrigin.half (g.T.Twin.both t)) (half_leaves g.O.HalfOrigin.half (g.T.Twin.leaves t))) (sym c.into_twin.ensures.twin)
    (c.make_copy-made.ensures.memory is (subst (λ t. IsTrue (g.T.Twin.both t).told) (sym c.new-device.ensures) told))
