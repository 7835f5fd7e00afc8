use Rattle.std.proofs.Common.{inl, sym, subst}
use Rattle.std.specs.Prelude.{IsTrue}
use Rattle.std.proofs.lemmas.Result.{on_ok_weaker}
use Rattle.kd_device.specs.declared.half.Half.TheVariants.{First}
use Rattle.kdcfile_double.specs.MakingLaws.{frame_then, none_rose_then, rose_then}
use Rattle.kdcfile_carry.specs.Doing.{AreEither}
use Rattle.kdcfile_carry.specs.Files.{AreFiles}
use Rattle.kdcfile_carry.specs.Keeping.{files_in}
use Rattle.kdcfile_carry.specs.Leaving.{StaysWithin}
use Rattle.kdcfile_carry.specs.LeavingLaws.{stays_then, stays_weaker}
use Rattle.kdcfile_carry.specs.WritingLaws.{changes_only, changes_then}
use Rattle.kdcfile_carry.specs.Ways.{carried_files}
use Rattle.kdcfile_carry.proofs.carrying.change_first.Given.{Over}
use Rattle.kdcfile_carry.proofs.carrying.change_first.Goals.{After-prepare}
use Rattle.kdcfile_carry.proofs.carrying.change_first.Goals as goal

pub change-requires-clause-ready : goal.change-requires-clause-ready
change-requires-clause-ready g c = λ told_b. c.in_ok-prepare.ensures.ready (subst IsTrue c.prepare.ensures.frame.told told_b)

pub change-requires-clause-at_rest : goal.change-requires-clause-at_rest
change-requires-clause-at_rest g c = λ told_b. c.in_ok-prepare.ensures.at_rest (subst IsTrue c.prepare.ensures.frame.told told_b)

-- the first step
begun : (g : Over) (c : After-prepare g) → IsTrue (g.T.Twin.both c.args.twin.now).told → StaysWithin (AreEither (files_in c.args.kept.now) (carried_files c.args.generation.now c.args.fingerprint.now (files_in c.args.kept.now))) (g.T.Twin.both c.args.twin.now) (g.T.Twin.both c.prepare.new.twin) (g.T.Twin.leaves c.args.twin.now) (g.T.Twin.leaves c.prepare.new.twin)
begun g c told =
    stays_weaker (g.T.Twin.both c.args.twin.now) (g.T.Twin.both c.prepare.new.twin) (g.T.Twin.leaves c.args.twin.now) (g.T.Twin.leaves c.prepare.new.twin) (AreFiles (files_in c.args.kept.now)) (AreEither (files_in c.args.kept.now) (carried_files c.args.generation.now c.args.fingerprint.now (files_in c.args.kept.now)))
    (λ x y are. inl are) (c.prepare.ensures.any_moment told)

pub returns-in_err-prepare-clause-any_moment : goal.returns-in_err-prepare-clause-any_moment
returns-in_err-prepare-clause-any_moment g c = begun g (goal.at.returns-in_err-prepare-clause-any_moment g c).After-prepare

pub returns-clause-any_moment : goal.returns-clause-any_moment
returns-clause-any_moment g c = λ told.
    stays_then (g.T.Twin.both c.args.twin.now) (g.T.Twin.both c.prepare.new.twin) (g.T.Twin.leaves c.args.twin.now) (g.T.Twin.leaves c.prepare.new.twin) (AreEither (files_in c.args.kept.now) (carried_files c.args.generation.now c.args.fingerprint.now (files_in c.args.kept.now)))
    (g.T.Twin.both c.change.new.twin) (g.T.Twin.leaves c.change.new.twin) (begun g (goal.at.returns-clause-any_moment g c).After-prepare told) (c.change.ensures.any_moment (subst IsTrue (sym c.prepare.ensures.frame.told) told))

pub returns-clause-files : goal.returns-clause-files
returns-clause-files g c = on_ok_weaker c.change.result (λ h told. h (subst IsTrue (sym c.prepare.ensures.frame.told) told)) c.change.ensures.files

pub returns-clause-source : goal.returns-clause-source
returns-clause-source g c = on_ok_weaker c.change.result (λ h told. h (subst IsTrue (sym c.prepare.ensures.frame.told) told)) c.change.ensures.source

pub returns-clause-at_rest : goal.returns-clause-at_rest
returns-clause-at_rest g c = on_ok_weaker c.change.result (λ h told. h (subst IsTrue (sym c.prepare.ensures.frame.told) told)) c.change.ensures.at_rest

pub returns-clause-failed : goal.returns-clause-failed
returns-clause-failed g c = λ is. inl (rose_then First (g.T.Twin.both c.args.twin.now) (g.T.Twin.both c.prepare.new.twin) (g.T.Twin.both c.change.new.twin) c.in_ok-prepare.ensures.fine (c.change.ensures.failed is))

pub returns-clause-fine : goal.returns-clause-fine
returns-clause-fine g c = on_ok_weaker c.change.result (λ none. none_rose_then (g.T.Twin.both c.args.twin.now) (g.T.Twin.both c.prepare.new.twin) (g.T.Twin.both c.change.new.twin) c.in_ok-prepare.ensures.fine none) c.change.ensures.fine

pub returns-clause-frame : goal.returns-clause-frame
returns-clause-frame g c = frame_then (g.T.Twin.both c.args.twin.now) (g.T.Twin.both c.prepare.new.twin) (g.T.Twin.both c.change.new.twin) c.prepare.ensures.frame c.change.ensures.frame

pub returns-in_err-prepare-clause-written : goal.returns-in_err-prepare-clause-written
returns-in_err-prepare-clause-written g c = λ told. changes_only c.args.generation.now c.args.fingerprint.now (files_in c.args.kept.now) (g.T.Twin.both c.args.twin.now) (g.T.Twin.both c.prepare.new.twin) (c.prepare.ensures.written told)

pub returns-clause-written : goal.returns-clause-written
returns-clause-written g c = λ told.
    let told_b : IsTrue (g.T.Twin.both c.prepare.new.twin).told = subst IsTrue (sym c.prepare.ensures.frame.told) told in
    changes_then c.args.generation.now c.args.fingerprint.now (files_in c.args.kept.now) (g.T.Twin.both c.args.twin.now) (g.T.Twin.both c.prepare.new.twin) (g.T.Twin.both c.change.new.twin) (c.prepare.ensures.written told) (c.change.ensures.put_most told_b) (c.change.ensures.other_put told_b)
