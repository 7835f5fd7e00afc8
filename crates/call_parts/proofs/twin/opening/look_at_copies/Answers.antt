use Rattle.std.proofs.Common.{List, ℕ, refl, sym, subst, inr}
use Rattle.std.specs.Prelude.{IsTrue}
use Rattle.kd_device.specs.declared.error.DeviceError.TheVariants as device
use Rattle.device_acts.specs.ErrorsLaws.{no_error}
use Rattle.kdcfile_double.specs.Causes.{of_device}
use Rattle.kdcfile_double.specs.declared.error.TwinOpenError.TheVariants as to
use Rattle.kdcfile_double.specs.MakingLaws.{none_rose_then}
use Rattle.kdcfile_double.specs.Opening.{StartsFromTwo}
use Rattle.call_parts.proofs.twin.opening.Attached.{attaches_then, may_attach_then}
use Rattle.call_parts.proofs.HandedOn.{no_cause}
use Rattle.call_parts.proofs.twin.opening.Opened.{fine_of, opened_stay, same_files}
use Rattle.call_parts.proofs.twin.opening.look_at_copies.Goals as goal

pub returns-clause-starts : goal.returns-clause-starts
returns-clause-starts g c = λ told.
    let a = g.T.Twin.both c.args.twin.now in
    let b = g.T.Twin.both c.attach_both.new.twin in
    let told_b : IsTrue b.told = subst IsTrue (sym c.attach_both.ensures.frame.told) told in
    same_files a b (λ (p q : List ℕ). StartsFromTwo c.args.generation.now c.args.fingerprint.now p q c.in_ok-_store.tables) (c.attach_both.ensures.rests told).files (c.in_ok-_store.ensures.starts told_b)

pub returns-clause-still : goal.returns-clause-still
returns-clause-still g c = λ told.
    let a = g.T.Twin.both c.args.twin.now in
    let b = g.T.Twin.both c.attach_both.new.twin in
    let told_b : IsTrue b.told = subst IsTrue (sym c.attach_both.ensures.frame.told) told in
    opened_stay a b (g.T.Twin.leaves c.args.twin.now) (g.T.Twin.leaves c.attach_both.new.twin) (c.attach_both.ensures.rests told) (g.T.Twin.both c.open.new.twin) (g.T.Twin.leaves c.open.new.twin) (c.open.ensures.still told_b (inr refl))
    (c.open.ensures.frame.sent told_b)

pub returns-clause-names : goal.returns-clause-names
returns-clause-names g c = λ told.
    let a = g.T.Twin.both c.args.twin.now in
    let b = g.T.Twin.both c.attach_both.new.twin in
    let told_b : IsTrue b.told = subst IsTrue (sym c.attach_both.ensures.frame.told) told in
    may_attach_then a b (g.T.Twin.both c.open.new.twin) c.args.base.now told_b (c.attach_both.ensures.names told) c.open.ensures.frame

pub returns-clause-named : goal.returns-clause-named
returns-clause-named g c = λ told.
    let a = g.T.Twin.both c.args.twin.now in
    let b = g.T.Twin.both c.attach_both.new.twin in
    let told_b : IsTrue b.told = subst IsTrue (sym c.attach_both.ensures.frame.told) told in
    attaches_then a b (g.T.Twin.both c.open.new.twin) c.args.base.now told_b (c.in_ok-attach_both.ensures.named told) c.open.ensures.frame

-- ---- calls that did not fail as a whole

pub returns-in_err-attach_both-clause-went : goal.returns-in_err-attach_both-clause-went
returns-in_err-attach_both-clause-went g c = λ none. fine_of _ _ (c.in_err-attach_both.ensures.fine (no_cause _ of_device c.in_err-attach_both.field-0.0 device.Failed c.from_residual.result c.from_residual.ensures.1 none))

pub returns-in_err-_store-clause-went : goal.returns-in_err-_store-clause-went
returns-in_err-_store-clause-went g c = λ none.
    fine_of _ _ (none_rose_then (g.T.Twin.both c.args.twin.now) (g.T.Twin.both c.attach_both.new.twin) (g.T.Twin.both c.open.new.twin) (c.in_ok-attach_both.ensures.fine (no_error _ _)) (c.in_err-_store.ensures.fine (no_cause _ (λ x. x) c.in_err-_store.field-0.0 to.Failed c.from_residual-in_err-_store.result c.from_residual-in_err-_store.ensures.1 none)))

pub returns-clause-went : goal.returns-clause-went
returns-clause-went g c = λ none.
    fine_of _ _ (none_rose_then (g.T.Twin.both c.args.twin.now) (g.T.Twin.both c.attach_both.new.twin) (g.T.Twin.both c.open.new.twin) (c.in_ok-attach_both.ensures.fine (no_error _ _)) (c.in_ok-_store.ensures.fine (no_error _ _)))
