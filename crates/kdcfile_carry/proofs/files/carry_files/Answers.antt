use Rattle.std.proofs.Common.{inl, sym, subst}
use Rattle.std.specs.Prelude.{IsTrue}
use Rattle.kdcfile_double.specs.MakingLaws.{rests_then}
use Rattle.kdcfile_carry.specs.Keeping.{IsIn, files_in}
use Rattle.kdcfile_carry.specs.Losing.{MayLose}
use Rattle.kdcfile_carry.specs.Ways.{files_after}
use Rattle.kdcfile_carry.specs.WritingLaws.{most_since, none_of_same}
use Rattle.kdcfile_carry.proofs.Found.{found_then, reading_stays, refusal, spent_are}
use Rattle.kdcfile_carry.proofs.Steps.{as_after, if_ok_weaker, outcome_then}
use Rattle.kdcfile_carry.proofs.files.carry_files.Goals as goal

pub returns-in_err-kept-clause-any_moment : goal.returns-in_err-kept-clause-any_moment
returns-in_err-kept-clause-any_moment g c = λ told rest f are.
    reading_stays (g.T.Twin.both c.args.twin.now) (g.T.Twin.both c.find.new.twin) (g.T.Twin.leaves c.args.twin.now) (g.T.Twin.leaves c.find.new.twin) f (files_after c.args.generation.now c.args.fingerprint.now f) rest (c.find.ensures.rests told) are

pub carry_kept-requires-clause-is_in : goal.carry_kept-requires-clause-is_in
carry_kept-requires-clause-is_in g c = λ told_b.
    let told = subst IsTrue c.find.ensures.frame.told told_b in
    as_after (g.T.Twin.both c.args.twin.now) (g.T.Twin.both c.find.new.twin) (g.T.Twin.leaves c.args.twin.now) (g.T.Twin.leaves c.find.new.twin) (c.find.ensures.rests told) (IsIn c.in_ok-kept.kept) (c.in_ok-kept.ensures.is_in told)

pub returns-clause-done : goal.returns-clause-done
returns-clause-done g c = if_ok_weaker _ _ c.carry_kept.result
    (λ o h told. (
      files_in c.in_ok-kept.kept,
      (c.in_ok-kept.ensures.is_in told).files,
      outcome_then c.args.generation.now c.args.fingerprint.now c.args.losses (files_in c.in_ok-kept.kept) o (g.T.Twin.both c.args.twin.now) (g.T.Twin.both c.find.new.twin) (g.T.Twin.both c.carry_kept.new.twin) (g.T.Twin.leaves c.args.twin.now) (g.T.Twin.leaves c.find.new.twin) (g.T.Twin.leaves c.carry_kept.new.twin) (c.find.ensures.rests told)
          (h (subst IsTrue (sym c.find.ensures.frame.told) told)),
    ))
    c.carry_kept.ensures.done

pub returns-clause-any_moment : goal.returns-clause-any_moment
returns-clause-any_moment g c = λ told rest f are.
    found_then c.args.generation.now c.args.fingerprint.now (files_in c.in_ok-kept.kept) f (g.T.Twin.both c.args.twin.now) (g.T.Twin.both c.find.new.twin) (g.T.Twin.both c.carry_kept.new.twin) (g.T.Twin.leaves c.args.twin.now) (g.T.Twin.leaves c.find.new.twin) (g.T.Twin.leaves c.carry_kept.new.twin) rest (c.find.ensures.rests told) (c.in_ok-kept.ensures.is_in told).files are
    (c.carry_kept.ensures.any_moment (subst IsTrue (sym c.find.ensures.frame.told) told))

pub returns-clause-refused : goal.returns-clause-refused
returns-clause-refused g c = λ why is told.
    refusal c.args.generation.now c.args.fingerprint.now (files_in c.in_ok-kept.kept) (g.T.Twin.both c.args.twin.now).first.holds (g.T.Twin.both c.args.twin.now).second.holds (c.in_ok-kept.ensures.is_in told).files why (c.carry_kept.ensures.refused why is)

pub returns-clause-spent : goal.returns-clause-spent
returns-clause-spent g c = λ n is told.
    spent_are c.args.generation.now c.args.fingerprint.now (files_in c.in_ok-kept.kept) (g.T.Twin.both c.args.twin.now).first.holds (g.T.Twin.both c.args.twin.now).second.holds (c.in_ok-kept.ensures.is_in told).files n (c.carry_kept.ensures.spent n is)

pub returns-clause-still : goal.returns-clause-still
returns-clause-still g c = λ told none.
    rests_then (g.T.Twin.both c.args.twin.now) (g.T.Twin.both c.find.new.twin) (g.T.Twin.leaves c.args.twin.now) (g.T.Twin.leaves c.find.new.twin) (c.find.ensures.rests told) (g.T.Twin.both c.carry_kept.new.twin) (g.T.Twin.leaves c.carry_kept.new.twin)
    (c.carry_kept.ensures.still (subst IsTrue (sym c.find.ensures.frame.told) told) (λ taken. none (files_in c.in_ok-kept.kept) (c.in_ok-kept.ensures.is_in told).files taken))

pub returns-in_err-kept-clause-written : goal.returns-in_err-kept-clause-written
returns-in_err-kept-clause-written g c = λ told. inl (none_of_same (g.T.Twin.both c.args.twin.now) (g.T.Twin.both c.find.new.twin) (c.find.ensures.rests told).files)

pub returns-clause-written : goal.returns-clause-written
returns-clause-written g c = λ told.
    most_since (g.T.Twin.both c.args.twin.now) (g.T.Twin.both c.find.new.twin) (c.find.ensures.rests told).files (g.T.Twin.both c.carry_kept.new.twin) c.args.generation.now c.args.fingerprint.now (MayLose c.args.generation.now c.args.losses)
    (c.carry_kept.ensures.written (subst IsTrue (sym c.find.ensures.frame.told) told))
