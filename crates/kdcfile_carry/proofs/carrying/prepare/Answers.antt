use Rattle.std.proofs.Common.{sym, subst}
use Rattle.std.specs.Prelude.{IsTrue, is_some}
use Rattle.kdcfile_carry.specs.Files.{AreFiles}
use Rattle.kdcfile_carry.specs.Keeping.{files_in}
use Rattle.kdcfile_carry.specs.LeavingLaws.{stays_then}
use Rattle.kdcfile_carry.specs.WritingLaws.{prepares_only, prepares_then}
use Rattle.kdcfile_carry.proofs.carrying.prepare.Goals as goal

pub returns-clause-any_moment : goal.returns-clause-any_moment
returns-clause-any_moment g c = λ told.
    stays_then (g.T.Twin.both c.args.twin.now) (g.T.Twin.both c.first_counts.new.twin) (g.T.Twin.leaves c.args.twin.now) (g.T.Twin.leaves c.first_counts.new.twin) (AreFiles (files_in c.args.kept.now)) (g.T.Twin.both c.make_ready.new.twin) (g.T.Twin.leaves c.make_ready.new.twin)
    (c.first_counts.ensures.any_moment told) (c.make_ready.ensures.any_moment (subst IsTrue (sym c.first_counts.ensures.frame.told) told))

pub returns-in_err-first_counts-clause-written : goal.returns-in_err-first_counts-clause-written
returns-in_err-first_counts-clause-written g c = λ told. prepares_only (is_some c.args.generation.now.double) (files_in c.args.kept.now) (g.T.Twin.both c.args.twin.now) (g.T.Twin.both c.first_counts.new.twin) (c.first_counts.ensures.written told)

pub returns-clause-written : goal.returns-clause-written
returns-clause-written g c = λ told.
    prepares_then (is_some c.args.generation.now.double) (files_in c.args.kept.now) (g.T.Twin.both c.args.twin.now) (g.T.Twin.both c.first_counts.new.twin) (g.T.Twin.both c.make_ready.new.twin) (c.first_counts.ensures.written told)
    (c.make_ready.ensures.written (subst IsTrue (sym c.first_counts.ensures.frame.told) told))
