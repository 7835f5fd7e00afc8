use Rattle.std.proofs.Common.{◌∙◌, sym}
use Rattle.std.specs.Prelude.{IsTrue}
use Rattle.std.proofs.lemmas.List.{nil_from_length}
use Rattle.device_acts.specs.Stands.{identity_for}
use Rattle.device_acts.proofs.warm_start.Kept.{fits_there}
use Rattle.device_acts.proofs.warm_start.Opened.{opening_made, opening_writes}
use Rattle.device_acts.proofs.warm_start.opening.open_tables.Goals as goal

pub returns-then-size-eq0-clause-any_moment : goal.returns-then-size-eq0-clause-any_moment
returns-then-size-eq0-clause-any_moment g c = λ told.
    let a = g.D.Device.state c.args.device.now in
    let b = g.D.Device.state c.size_at_rest.new.device in
    let told_b : IsTrue b.told = rw c.size_at_rest.ensures.frame.told told in
    opening_made (identity_for c.args.generation.now c.args.fingerprint.now) a b (g.D.Device.leaves c.args.device.now) (g.D.Device.leaves c.size_at_rest.new.device) (c.size_at_rest.ensures.rests told)
    (nil_from_length a.holds (sym (c.in_ok-size.ensures.size told) ∙ c.if-size-eq0.true)) (g.D.Device.state c.make.new.device) (g.D.Device.leaves c.make.new.device) (c.make.ensures.any_moment told_b)

pub returns-else-size-eq0-clause-fits : goal.returns-else-size-eq0-clause-fits
returns-else-size-eq0-clause-fits g c = fits_there c.args.generation.now c.args.fingerprint.now c.warm.result c.warm.ensures.tables c.warm.ensures.suits

pub returns-then-size-eq0-clause-put_most : goal.returns-then-size-eq0-clause-put_most
returns-then-size-eq0-clause-put_most g c = λ told.
    let a = g.D.Device.state c.args.device.now in
    let b = g.D.Device.state c.size_at_rest.new.device in
    let told_b : IsTrue b.told = rw c.size_at_rest.ensures.frame.told told in
    opening_writes (identity_for c.args.generation.now c.args.fingerprint.now) a b (g.D.Device.leaves c.args.device.now) (g.D.Device.leaves c.size_at_rest.new.device) (c.size_at_rest.ensures.rests told)
    (nil_from_length a.holds (sym (c.in_ok-size.ensures.size told) ∙ c.if-size-eq0.true)) (g.D.Device.state c.make.new.device) (c.make.ensures.put_most told_b)
