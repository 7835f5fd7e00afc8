use Rattle.kd_device.specs.HalfLaws.{quiet_half}
use Rattle.kd_device.proofs.InUse.{quiet}
use Rattle.kd_device.proofs.half_device.HalfDeviceDevice.size.Goals as goal

pub invariant_of-self : goal.invariant_of-self
invariant_of-self g c =
    let l = g.met.T.Twin in let e = c.size.ensures in let i = c.self.invariant in
    (i.0, quiet i.0 i.1 (l.sent_now c.self.inside.twin) (l.earlier c.self.inside.twin) (l.earlier c.size.new.self) e.place e.frame e.other_half e.content)

pub returns-clause-content : goal.returns-clause-content
returns-clause-content g c = rw (← c.self.view_is, ← c.self.invariant.0) (λ told. quiet_half c.self.inside.half _ _ _ _ (c.size.ensures.content told))
