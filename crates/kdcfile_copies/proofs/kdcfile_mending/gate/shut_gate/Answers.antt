use Rattle.std.proofs.Common.{inl, inr, sym, subst, arith}
use Rattle.std.proofs.lemmas.Result.{on_ok_weaker}
use Rattle.kd_device.specs.Twin.{disk_of}
use Rattle.kdcfile_layout.specs.Gates.{IsShut}
use Rattle.kdcfile_copies.specs.Mending.{HasShutGate}
use Rattle.kdcfile_copies.proofs.kdcfile_mending.Copies.{closed_gate}
use Rattle.kdcfile_copies.proofs.kdcfile_mending.Halves.{mends_weaker}
use Rattle.kdcfile_copies.proofs.kdcfile_mending.Run.{told_then, closing}
use Rattle.kdcfile_copies.proofs.kdcfile_mending.gate.shut_gate.Goals as goal

pub returns-in_err-gate-clause-any_moment : goal.returns-in_err-gate-clause-any_moment
returns-in_err-gate-clause-any_moment g c = λ told. mends_weaker c.args.target _ _ _ _ _ (c.gate_of.ensures.any_moment told) _ (λ x is. inl is)

pub returns-in_err-gate-clause-put_most : goal.returns-in_err-gate-clause-put_most
returns-in_err-gate-clause-put_most g c = λ told. omega (arith, c.gate_of.ensures.put told)

pub returns-then-stays-clause-any_moment : goal.returns-then-stays-clause-any_moment
returns-then-stays-clause-any_moment g c = λ told. mends_weaker c.args.target _ _ _ _ _ (c.gate_of.ensures.any_moment told) _ (λ x is. inl is)

pub returns-then-stays-clause-put_most : goal.returns-then-stays-clause-put_most
returns-then-stays-clause-put_most g c = λ told. omega (arith, c.gate_of.ensures.put told)

pub returns-then-stays-clause-shut : goal.returns-then-stays-clause-shut
returns-then-stays-clause-shut g c = λ told. subst IsShut (sym (c.gate_of.ensures.holds told)) (c.stays.ensures.shut c.if-stays.true _ (c.in_ok-gate.ensures.value told))

pub returns-then-stays-clause-made : goal.returns-then-stays-clause-made
returns-then-stays-clause-made g c = λ told makes. subst HasShutGate (sym (c.gate_of.ensures.holds told)) (c.stays.ensures.made c.if-stays.true makes _ (c.in_ok-gate.ensures.value told))

pub returns-clause-any_moment : goal.returns-clause-any_moment
returns-clause-any_moment g c = λ told.
    closing c.args.target _ _ _ _ (c.stays.ensures.open c.if-stays.false _ (c.in_ok-gate.ensures.value told)) (c.gate_of.ensures.holds told) (c.gate_of.ensures.any_moment told) _ _
    (c.put_synced.ensures.any_moment (told_then c.args.target _ _ c.gate_of.ensures.goes told))

pub returns-clause-put_most : goal.returns-clause-put_most
returns-clause-put_most g c = λ told. omega (arith, c.gate_of.ensures.put told, c.put_synced.ensures.put_most (told_then c.args.target _ _ c.gate_of.ensures.goes told))

pub returns-clause-shut : goal.returns-clause-shut
returns-clause-shut g c = on_ok_weaker c.put_synced.result
    (λ holds told. subst IsShut (sym (holds (told_then c.args.target _ _ c.gate_of.ensures.goes told))) (inr (closed_gate (disk_of c.args.target (g.T.Twin.both c.gate_of.new.twin)).holds).shut))
    c.put_synced.ensures.holds

pub returns-clause-made : goal.returns-clause-made
returns-clause-made g c = on_ok_weaker c.put_synced.result
    (λ holds told makes. subst HasShutGate (sym (holds (told_then c.args.target _ _ c.gate_of.ensures.goes told))) (closed_gate (disk_of c.args.target (g.T.Twin.both c.gate_of.new.twin)).holds))
    c.put_synced.ensures.holds
