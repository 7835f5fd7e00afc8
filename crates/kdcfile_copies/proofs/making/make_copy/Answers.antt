use Rattle.kd_base.specs.ToolsLaws.{error_same}
use Rattle.kd_device.specs.TimeLaws.{faults_then}
use Rattle.kd_device.specs.declared.error.DeviceError.TheVariants as device
use Rattle.kdcfile_copies.proofs.Told.{handed_on_not}
use Rattle.std.specs.Prelude.{IsTrue}
use Rattle.kdcfile_store.specs.Paged.{identity_with}
use Rattle.kdcfile_copies.proofs.FirstCopies.{charged_after, first_patch, kept_no_copy, made_alone, made_then}
use Rattle.kdcfile_copies.proofs.making.make_copy.Goals as goal

pub returns-in_err-store-clause-any_moment : goal.returns-in_err-store-clause-any_moment
returns-in_err-store-clause-any_moment g c = λ told.
    made_alone (identity_with c.args.limits.now c.args.fingerprint.now) (g.D.Device.state c.args.device.now) (g.D.Device.state c.create.new.device) (g.D.Device.leaves c.args.device.now) (g.D.Device.leaves c.create.new.device) (c.create.ensures.any_moment told)

pub commit-requires-clause-patch : goal.commit-requires-clause-patch
commit-requires-clause-patch g c = first_patch (identity_with c.args.limits.now c.args.fingerprint.now) c.in_ok-store.store c.in_ok-first.first c.requires.identity c.in_ok-store.ensures.identity c.in_ok-store.ensures.content c.in_ok-first.ensures

pub commit-requires-clause-charge_after : goal.commit-requires-clause-charge_after
commit-requires-clause-charge_after g c = charged_after (identity_with c.args.limits.now c.args.fingerprint.now) c.in_ok-store.store c.in_ok-first.first c.requires.identity c.in_ok-store.ensures.identity c.in_ok-store.ensures.content c.in_ok-first.ensures

pub returns-in_err-commit-clause-any_moment : goal.returns-in_err-commit-clause-any_moment
returns-in_err-commit-clause-any_moment g c = λ told.
    let told_b : IsTrue (g.D.Device.state c.create.new.device).told = rw c.create.ensures.frame.told told in
    made_then (identity_with c.args.limits.now c.args.fingerprint.now) c.in_ok-store.store c.in_ok-first.first c.requires.identity c.in_ok-store.ensures.identity c.in_ok-store.ensures.content c.in_ok-first.ensures (g.D.Device.state c.args.device.now) (g.D.Device.state c.create.new.device) (g.D.Device.state c.commit.new.device) (g.D.Device.leaves c.args.device.now) (g.D.Device.leaves c.create.new.device) (g.D.Device.leaves c.commit.new.device) (c.create.ensures.sent told) (c.create.ensures.any_moment told) (c.commit.ensures.any_moment told_b)

pub returns-in_err-commit-clause-memory : goal.returns-in_err-commit-clause-memory
returns-in_err-commit-clause-memory g c = λ is told.
    let told_b : IsTrue (g.D.Device.state c.create.new.device).told = rw c.create.ensures.frame.told told in
    kept_no_copy (identity_with c.args.limits.now c.args.fingerprint.now) c.in_ok-store.store c.in_ok-first.first c.requires.identity c.in_ok-store.ensures.identity c.in_ok-store.ensures.content c.in_ok-first.ensures (g.D.Device.state c.create.new.device) (g.D.Device.state c.commit.new.device) (g.D.Device.leaves c.create.new.device) (g.D.Device.leaves c.commit.new.device) (c.in_ok-store.ensures.kept told) (c.in_err-commit.ensures.memory (error_same _ _ c.from_residual-in_err-commit.result c.in_err-commit.field-0.0 device.Memory c.from_residual-in_err-commit.ensures.1 is) told_b)

pub returns-in_err-commit-clause-fine : goal.returns-in_err-commit-clause-fine
returns-in_err-commit-clause-fine g c = λ none.
    faults_then (g.D.Device.state c.args.device.now) (g.D.Device.state c.create.new.device) (g.D.Device.state c.commit.new.device) (c.in_ok-store.ensures.fine (λ is. absurd cc))
    (c.in_err-commit.ensures.fine (handed_on_not _ _ c.from_residual-in_err-commit.result c.in_err-commit.field-0.0 device.Failed c.from_residual-in_err-commit.ensures.1 none))

pub returns-clause-any_moment : goal.returns-clause-any_moment
returns-clause-any_moment g c = λ told.
    let told_b : IsTrue (g.D.Device.state c.create.new.device).told = rw c.create.ensures.frame.told told in
    made_then (identity_with c.args.limits.now c.args.fingerprint.now) c.in_ok-store.store c.in_ok-first.first c.requires.identity c.in_ok-store.ensures.identity c.in_ok-store.ensures.content c.in_ok-first.ensures (g.D.Device.state c.args.device.now) (g.D.Device.state c.create.new.device) (g.D.Device.state c.commit.new.device) (g.D.Device.leaves c.args.device.now) (g.D.Device.leaves c.create.new.device) (g.D.Device.leaves c.commit.new.device) (c.create.ensures.sent told) (c.create.ensures.any_moment told) (c.commit.ensures.any_moment told_b)

pub returns-clause-fine : goal.returns-clause-fine
returns-clause-fine g c = λ none. faults_then (g.D.Device.state c.args.device.now) (g.D.Device.state c.create.new.device) (g.D.Device.state c.commit.new.device) (c.in_ok-store.ensures.fine (λ is. absurd cc)) (c.in_ok-commit.ensures.fine (λ is. absurd cc))
