use Rattle.std.proofs.Common.{ap, arith}
use Rattle.std.specs.Prelude.{IsTrue}
use Rattle.device_acts.specs.Opening.{opening_most}
use Rattle.device_acts.specs.Stands.{identity_for}
use Rattle.call_parts.proofs.Opened.{opening_then}
use Rattle.call_parts.proofs.opening.open.Goals as goal

pub returns-clause-any_moment : goal.returns-clause-any_moment
returns-clause-any_moment g c = λ told.
    let a = g.D.Device.state c.args.device.now in
    let b = g.D.Device.state c.attach.new.device in
    let told_b : IsTrue b.told = rw c.attach.ensures.frame.told told in
    opening_then (identity_for c.args.generation.now c.args.fingerprint.now) a b (g.D.Device.leaves c.args.device.now) (g.D.Device.leaves c.attach.new.device) (c.attach.ensures.rests told) (g.D.Device.state c.open_tables.new.device) (g.D.Device.leaves c.open_tables.new.device) (c.open_tables.ensures.any_moment told_b)

pub returns-clause-put_most : goal.returns-clause-put_most
returns-clause-put_most g c = λ told.
    let b = g.D.Device.state c.attach.new.device in
    let told_b : IsTrue b.told = rw c.attach.ensures.frame.told told in
    let rests = c.attach.ensures.rests told in
    let same = ap (opening_most (identity_for c.args.generation.now c.args.fingerprint.now)) rests.holds in
    let put = rests.put in
    omega (arith, c.open_tables.ensures.put_most told_b, same, put)
