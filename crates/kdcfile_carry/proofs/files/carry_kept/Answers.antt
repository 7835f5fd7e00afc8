use Rattle.std.proofs.Common.{inl, inr, sym, subst}
use Rattle.std.specs.Prelude.{IfNone, IfSome}
use Rattle.kdcfile_carry.specs.Doing.{AreEither, IsPlan}
use Rattle.kdcfile_carry.specs.Files.{AreFiles}
use Rattle.kdcfile_carry.specs.Keeping.{files_in}
use Rattle.kdcfile_carry.specs.Leaving.{StaysWithin}
use Rattle.kdcfile_carry.specs.Losing.{MayLose}
use Rattle.kdcfile_carry.specs.LeavingLaws.{stays_weaker}
use Rattle.kdcfile_carry.specs.Ways.{IsUpToDate, files_after}
use Rattle.kdcfile_carry.specs.WaysLaws.{after_other}
use Rattle.kdcfile_carry.specs.WritingLaws.{carried_most, kept_most, none_here}
use Rattle.kdcfile_carry.proofs.Changing.{stays_here}
use Rattle.kdcfile_carry.proofs.files.carry_kept.Goals as goal

pub returns-in_err-plan-clause-any_moment : goal.returns-in_err-plan-clause-any_moment
returns-in_err-plan-clause-any_moment g c = λ told.
    let f = files_in c.args.kept.now in
    stays_here (AreEither f (files_after c.args.generation.now c.args.fingerprint.now f)) (g.T.Twin.both c.args.twin.now) (g.T.Twin.leaves c.args.twin.now) (c.requires.at_rest told) (inl (c.requires.is_in told).files)

pub returns-in-Some-clause-any_moment : goal.returns-in-Some-clause-any_moment
returns-in-Some-clause-any_moment g c = λ told.
    let f = files_in c.args.kept.now in
    let planned = subst (λ o. IfSome o (λ p. IsPlan c.args.generation.now c.args.fingerprint.now f p)) c.in-Some.is c.in_ok-plan.ensures.plan in
    subst (λ h. StaysWithin (AreEither f h) (g.T.Twin.both c.args.twin.now) (g.T.Twin.both c.carry_planned.new.twin) (g.T.Twin.leaves c.args.twin.now) (g.T.Twin.leaves c.carry_planned.new.twin)) (sym (after_other c.args.generation.now c.args.fingerprint.now f planned.may.differs))
    (c.carry_planned.ensures.any_moment told)

pub returns-in-Some-clause-still : goal.returns-in-Some-clause-still
returns-in-Some-clause-still g c = λ told none.
    let planned = subst (λ o. IfSome o (λ p. IsPlan c.args.generation.now c.args.fingerprint.now (files_in c.args.kept.now) p)) c.in-Some.is c.in_ok-plan.ensures.plan in
    absurd (none (inr planned.may))

pub returns-in-None-clause-done : goal.returns-in-None-clause-done
returns-in-None-clause-done g c =
    c.keep_files.ensures.done c.args.generation.now c.args.fingerprint.now c.args.losses (subst (λ o. IfNone o (IsUpToDate c.args.generation.now c.args.fingerprint.now (files_in c.args.kept.now))) c.in-None.is c.in_ok-plan.ensures.none)

pub returns-in-None-clause-any_moment : goal.returns-in-None-clause-any_moment
returns-in-None-clause-any_moment g c = λ told.
    let f = files_in c.args.kept.now in
    stays_weaker (g.T.Twin.both c.args.twin.now) (g.T.Twin.both c.keep_files.new.twin) (g.T.Twin.leaves c.args.twin.now) (g.T.Twin.leaves c.keep_files.new.twin) (AreFiles f) (AreEither f (files_after c.args.generation.now c.args.fingerprint.now f)) (λ x y are. inl are) (c.keep_files.ensures.any_moment told)

pub returns-in-None-clause-still : goal.returns-in-None-clause-still
returns-in-None-clause-still g c = λ told none.
    absurd (none (inl (subst (λ o. IfNone o (IsUpToDate c.args.generation.now c.args.fingerprint.now (files_in c.args.kept.now))) c.in-None.is c.in_ok-plan.ensures.none)))

pub returns-in_err-plan-clause-written : goal.returns-in_err-plan-clause-written
returns-in_err-plan-clause-written g c = λ told. inl (none_here (g.T.Twin.both c.args.twin.now))

pub returns-in-Some-clause-written : goal.returns-in-Some-clause-written
returns-in-Some-clause-written g c = λ told.
    let f = files_in c.args.kept.now in
    let planned = subst (λ o. IfSome o (λ p. IsPlan c.args.generation.now c.args.fingerprint.now f p)) c.in-Some.is c.in_ok-plan.ensures.plan in
    carried_most c.args.generation.now c.args.fingerprint.now (MayLose c.args.generation.now c.args.losses) f (g.T.Twin.both c.args.twin.now) (g.T.Twin.both c.carry_planned.new.twin) (c.requires.is_in told).files planned.may (c.carry_planned.ensures.written told)

pub returns-in-None-clause-written : goal.returns-in-None-clause-written
returns-in-None-clause-written g c = λ told.
    let f = files_in c.args.kept.now in
    kept_most c.args.generation.now c.args.fingerprint.now (MayLose c.args.generation.now c.args.losses) f (g.T.Twin.both c.args.twin.now) (g.T.Twin.both c.keep_files.new.twin) (c.requires.is_in told).files
    (subst (λ o. IfNone o (IsUpToDate c.args.generation.now c.args.fingerprint.now f)) c.in-None.is c.in_ok-plan.ensures.none) (c.keep_files.ensures.written told)
