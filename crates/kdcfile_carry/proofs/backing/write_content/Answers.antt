use Rattle.std.proofs.Common.{ap, subst, sym}
use Rattle.std.specs.Prelude.{IsTrue}
use Rattle.device_acts.specs.Stands.{identity_for}
use Rattle.kdcfile_store.specs.Paged.{identity_with}
use Rattle.kdcfile_store.specs.declared.store.StoreLimits.{StoreLimits}
use Rattle.kdcfile_carry.proofs.Sizes.{made_only, made_then}
use Rattle.kdcfile_carry.proofs.backing.write_content.Goals as goal

pub returns-in_err-store-clause-put_most : goal.returns-in_err-store-clause-put_most
returns-in_err-store-clause-put_most g c = λ told.
    made_only (g.D.Device.state c.args.device.now) (g.D.Device.state c.create.new.device) (identity_with c.limits_of-limits.result c.args.fingerprint.now) (identity_for c.args.generation.now c.args.fingerprint.now) c.args.content
    (ap (λ (l : StoreLimits). identity_with l c.args.fingerprint.now) c.limits_of-limits.ensures.limits) (c.create.ensures.put_most told)

pub returns-in_err-carry-clause-put_most : goal.returns-in_err-carry-clause-put_most
returns-in_err-carry-clause-put_most g c = λ told.
    made_then (g.D.Device.state c.args.device.now) (g.D.Device.state c.create.new.device) (g.D.Device.state c.carry.new.device) (identity_with c.limits_of-limits.result c.args.fingerprint.now) (identity_for c.args.generation.now c.args.fingerprint.now) c.args.content
    (ap (λ (l : StoreLimits). identity_with l c.args.fingerprint.now) c.limits_of-limits.ensures.limits) (c.create.ensures.put_most told) (c.carry.ensures.put_most (subst IsTrue (sym c.create.ensures.frame.told) told))

pub returns-clause-put_most : goal.returns-clause-put_most
returns-clause-put_most g c = λ told.
    made_then (g.D.Device.state c.args.device.now) (g.D.Device.state c.create.new.device) (g.D.Device.state c.carry.new.device) (identity_with c.limits_of-limits.result c.args.fingerprint.now) (identity_for c.args.generation.now c.args.fingerprint.now) c.args.content
    (ap (λ (l : StoreLimits). identity_with l c.args.fingerprint.now) c.limits_of-limits.ensures.limits) (c.create.ensures.put_most told) (c.carry.ensures.put_most (subst IsTrue (sym c.create.ensures.frame.told) told))
