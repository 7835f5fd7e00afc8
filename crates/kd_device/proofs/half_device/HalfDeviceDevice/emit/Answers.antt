use Rattle.kd_device.specs.Twin.{other}
use Rattle.kd_device.specs.HalfLaws.{emits_half}
use Rattle.kd_device.proofs.InUse.{emits}
use Rattle.kd_device.proofs.half_device.HalfDeviceDevice.emit.Goals as goal

pub invariant_of-self : goal.invariant_of-self
invariant_of-self g c =
    let l = g.met.T.Twin in let e = c.emit.ensures in let half = c.self.inside.half in let i = c.self.invariant in
    (i.0, emits i.0 i.1 (l.sent_now c.self.inside.twin) (l.earlier c.self.inside.twin) (l.earlier c.emit.new.self) e.place (e.frame half) (e.disk (other half)) c.args.piece.now c.emit.result (λ told. e.parted told half) (λ told. e.content told half))

pub returns-clause-fine : goal.returns-clause-fine
returns-clause-fine g c = rw (← c.self.view_is) c.emit.ensures.fine

pub returns-clause-spare : goal.returns-clause-spare
returns-clause-spare g c = rw (← c.self.view_is) (c.emit.ensures.spare g.O.HalfOrigin.half)

pub returns-clause-content : goal.returns-clause-content
returns-clause-content g c = rw (← c.self.view_is) (λ told. emits_half g.O.HalfOrigin.half _ _ _ _ c.args.piece.now c.emit.result (c.emit.ensures.content told g.O.HalfOrigin.half))
