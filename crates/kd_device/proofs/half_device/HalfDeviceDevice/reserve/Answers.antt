use Rattle.kd_device.specs.Twin.{other}
use Rattle.kd_device.specs.HalfLaws.{quiet_half}
use Rattle.kd_device.proofs.InUse.{quiet}
use Rattle.kd_device.proofs.half_device.HalfDeviceDevice.reserve.Goals as goal

pub invariant_of-self : goal.invariant_of-self
invariant_of-self g c =
    let l = g.met.T.Twin in let e = c.reserve.ensures in let half = c.self.inside.half in let i = c.self.invariant in
    (i.0, quiet i.0 i.1 (l.sent_now c.self.inside.twin) (l.earlier c.self.inside.twin) (l.earlier c.reserve.new.self) e.place (e.frame half) (e.disk (other half)) (λ told. e.content told half))

pub returns-clause-spare : goal.returns-clause-spare
returns-clause-spare g c = c.reserve.ensures.spare g.O.HalfOrigin.half

pub returns-clause-line : goal.returns-clause-line
returns-clause-line g c = rw (← c.self.view_is) c.reserve.ensures.line

pub returns-clause-content : goal.returns-clause-content
returns-clause-content g c = rw (← c.self.view_is) (λ told. quiet_half g.O.HalfOrigin.half _ _ _ _ (c.reserve.ensures.content told g.O.HalfOrigin.half))
