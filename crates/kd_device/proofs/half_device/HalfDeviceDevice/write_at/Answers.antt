use Rattle.kd_device.specs.HalfLaws.{writes_half}
use Rattle.kd_device.proofs.InUse.{writes}
use Rattle.kd_device.proofs.half_device.HalfDeviceDevice.write_at.Goals as goal

pub invariant_of-self : goal.invariant_of-self
invariant_of-self g c =
    let l = g.met.T.Twin in let e = c.write_at.ensures in let i = c.self.invariant in
    (i.0, writes i.0 i.1 (l.sent_now c.self.inside.twin) (l.earlier c.self.inside.twin) (l.earlier c.write_at.new.self) e.place e.frame e.other_half c.args.at c.args.bytes.now c.write_at.result e.content)

pub returns-clause-content : goal.returns-clause-content
returns-clause-content g c = rw (← c.self.view_is, ← c.self.invariant.0) (λ told. writes_half c.self.inside.half _ _ _ _ c.args.at c.args.bytes.now c.write_at.result (c.write_at.ensures.content told))
