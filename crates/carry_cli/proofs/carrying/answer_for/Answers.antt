use Rattle.std.proofs.Common.{List, ℕ, inl, sym, subst}
use Rattle.std.specs.Prelude.{IsTrue}
use Rattle.device_acts.specs.ErrorsLaws.{no_error}
use Rattle.kdcfile_carry.specs.Files.{AreFiles}
use Rattle.kdcfile_carry.specs.LeavingLaws.{rest_both}
use Rattle.kdcfile_carry.specs.WritingLaws.{most_since, none_of_same}
use Rattle.call_parts.specs.Asking.{update_errand}
use Rattle.carry_cli.specs.Carrying.{LosesNone, NoneIsMissing, generation_of}
use Rattle.carry_cli.proofs.Carried.{if_ok_then, none_then, now_since, only_rested, pair_back, stays_since}
use Rattle.carry_cli.proofs.carrying.answer_for.Goals as goal

pub returns-in_err-half-clause-any_moment : goal.returns-in_err-half-clause-any_moment
returns-in_err-half-clause-any_moment g c = λ told rest f are.
    only_rested (update_errand c.args.work.now) (g.T.Twin.both c.args.twin.now) (g.T.Twin.both c.find_missing.new.twin) (g.T.Twin.leaves c.args.twin.now) (g.T.Twin.leaves c.find_missing.new.twin) f (c.find_missing.ensures.rests told) rest are

pub returns-in-Some-clause-any_moment : goal.returns-in-Some-clause-any_moment
returns-in-Some-clause-any_moment g c = λ told rest f are.
    only_rested (update_errand c.args.work.now) (g.T.Twin.both c.args.twin.now) (g.T.Twin.both c.find_missing.new.twin) (g.T.Twin.leaves c.args.twin.now) (g.T.Twin.leaves c.find_missing.new.twin) f (c.find_missing.ensures.rests told) rest are

pub returns-in-None-clause-is_now : goal.returns-in-None-clause-is_now
returns-in-None-clause-is_now g c =
    let e = update_errand c.args.work.now in
    let a = g.T.Twin.both c.args.twin.now in
    let b = g.T.Twin.both c.find_missing.new.twin in
    let d = g.T.Twin.both c.answer_over.new.twin in
    let la = g.T.Twin.leaves c.args.twin.now in
    let lb = g.T.Twin.leaves c.find_missing.new.twin in
    let ld = g.T.Twin.leaves c.answer_over.new.twin in
    let quiet = c.in_ok-half.ensures.fine (no_error _ _) in
    if_ok_then c.answer_over.result _ _ c.answer_over.ensures.is_now
    (λ x was told.
    let rests = c.find_missing.ensures.rests told in
    let told_b : IsTrue b.told = subst IsTrue (sym c.find_missing.ensures.frame.told) told in
    now_since e c.args.options a b d la lb ld rests quiet x (was told_b (pair_back e c.args.options a b d la lb ld rests quiet (λ (p q : List ℕ). NoneIsMissing c.args.options p q) (none_then _ (IsTrue a.told → NoneIsMissing c.args.options a.first.holds a.second.holds) c.in-None.is c.in_ok-half.ensures.none told))))

pub returns-in-None-clause-any_moment : goal.returns-in-None-clause-any_moment
returns-in-None-clause-any_moment g c = λ told rest f are.
    let e = update_errand c.args.work.now in
    let a = g.T.Twin.both c.args.twin.now in
    let b = g.T.Twin.both c.find_missing.new.twin in
    let d = g.T.Twin.both c.answer_over.new.twin in
    let la = g.T.Twin.leaves c.args.twin.now in
    let lb = g.T.Twin.leaves c.find_missing.new.twin in
    let ld = g.T.Twin.leaves c.answer_over.new.twin in
    let rests = c.find_missing.ensures.rests told in
    let told_b : IsTrue b.told = subst IsTrue (sym c.find_missing.ensures.frame.told) told in
    let quiet = c.in_ok-half.ensures.fine (no_error _ _) in
    stays_since e c.args.options a b d la lb ld rests quiet f rest are (c.answer_over.ensures.any_moment told_b (rest_both a b la lb rests rest) f (pair_back e c.args.options a b d la lb ld rests quiet (λ (p q : List ℕ). AreFiles f p q) are))

pub returns-in_err-half-clause-written : goal.returns-in_err-half-clause-written
returns-in_err-half-clause-written g c = λ told. inl (none_of_same (g.T.Twin.both c.args.twin.now) (g.T.Twin.both c.find_missing.new.twin) (c.find_missing.ensures.rests told).files)

pub returns-in-Some-clause-written : goal.returns-in-Some-clause-written
returns-in-Some-clause-written g c = λ told. inl (none_of_same (g.T.Twin.both c.args.twin.now) (g.T.Twin.both c.find_missing.new.twin) (c.find_missing.ensures.rests told).files)

pub returns-in-None-clause-written : goal.returns-in-None-clause-written
returns-in-None-clause-written g c = λ told.
    let e = update_errand c.args.work.now in
    most_since (g.T.Twin.both c.args.twin.now) (g.T.Twin.both c.find_missing.new.twin) (c.find_missing.ensures.rests told).files (g.T.Twin.both c.answer_over.new.twin) (generation_of e) e.fingerprint (λ f. LosesNone e c.args.options f)
    (c.answer_over.ensures.written (subst IsTrue (sym c.find_missing.ensures.frame.told) told))
