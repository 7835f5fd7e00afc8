use Rattle.std.proofs.Common.{sym, subst}
use Rattle.std.specs.Prelude.{IsTrue}
use Rattle.kd_device.specs.declared.half.Half.TheVariants.{First, Second}
use Rattle.device_acts.specs.declared.warm_start.error.OpenError.TheVariants as opening
use Rattle.kdcfile_double.specs.CommitLaws.{other_kept_at}
use Rattle.kdcfile_double.specs.CommitTwoLaws.{faults_before, first_line, on_err, one_frame, two_line}
use Rattle.kdcfile_double.specs.MakingLaws.{RestsBoth, first_rests_both, two_frames, two_rests}
use Rattle.kd_base.specs.ToolsLaws.{error_same}
use Rattle.kdcfile_double.specs.Twice.{SparesOne, with_copies}
use Rattle.kdcfile_double.proofs.opening.reload_both.Given.{Over}
use Rattle.kdcfile_double.proofs.opening.reload_both.Goals.{After-reload-2}
use Rattle.kdcfile_double.proofs.opening.reload_both.Goals as goal

pub reload-requires-2-clause-kept : goal.reload-requires-2-clause-kept
reload-requires-2-clause-kept g c = λ told_b.
    let a = g.T.Twin.both c.args.twin.now in
    let b = g.T.Twin.both c.reload.new.twin in
    let told : IsTrue a.told = subst IsTrue c.reload.ensures.frame.told told_b in
    other_kept_at First c.args.second a b (g.T.Twin.leaves c.args.twin.now) (g.T.Twin.leaves c.reload.new.twin) c.reload.ensures.other_half (c.reload.ensures.other_stays told) (c.requires.second_kept told)

pub returns-in_err-first-clause-rests : goal.returns-in_err-first-clause-rests
returns-in_err-first-clause-rests g c = λ told.
    let tw = c.args.twin.now in
    first_rests_both (g.T.Twin.both tw) (g.T.Twin.both c.reload.new.twin) (g.T.Twin.leaves tw) (g.T.Twin.leaves c.reload.new.twin) (λ x y out left. g.met.T.Twin.sent_now tw x y out told left) (c.reload.ensures.rests told)
    (c.reload.ensures.any_moment told) c.reload.ensures.other_half (c.reload.ensures.other_stays told)

pub returns-in_err-first-clause-refused : goal.returns-in_err-first-clause-refused
returns-in_err-first-clause-refused g c = λ is told. c.in_err-first.ensures.refused (error_same _ _ c.from_residual.result c.in_err-first.field-0.0 opening.NotKdcfile c.from_residual.ensures.1 is) told

pub returns-in_err-first-clause-other : goal.returns-in_err-first-clause-other
returns-in_err-first-clause-other g c = λ stored is. c.in_err-first.ensures.other stored (error_same _ _ c.from_residual.result c.in_err-first.field-0.0 (opening.OtherGeneration stored) c.from_residual.ensures.1 is)

pub returns-in_err-first-clause-failed : goal.returns-in_err-first-clause-failed
returns-in_err-first-clause-failed g c = λ is. c.in_err-first.ensures.failed (error_same _ _ c.from_residual.result c.in_err-first.field-0.0 opening.Failed c.from_residual.ensures.1 is)

pub returns-in_err-first-clause-frame : goal.returns-in_err-first-clause-frame
returns-in_err-first-clause-frame g c =
    one_frame First (g.T.Twin.both c.args.twin.now) (g.T.Twin.both c.reload.new.twin) c.reload.ensures.frame c.reload.ensures.names c.reload.ensures.other_half (λ told. (c.reload.ensures.rests told).sent)

-- both files stay as they are
rests : (g : Over) (c : After-reload-2 g) → IsTrue (g.T.Twin.both c.args.twin.now).told → RestsBoth (g.T.Twin.both c.args.twin.now) (g.T.Twin.both c.reload-2.new.twin) (g.T.Twin.leaves c.args.twin.now) (g.T.Twin.leaves c.reload-2.new.twin)
rests g c told =
    let told_b : IsTrue (g.T.Twin.both c.reload.new.twin).told = subst IsTrue (sym c.reload.ensures.frame.told) told in
    two_rests (g.T.Twin.both c.args.twin.now) (g.T.Twin.both c.reload.new.twin) (g.T.Twin.both c.reload-2.new.twin) c.reload.ensures.other_half c.reload-2.ensures.other_half (g.T.Twin.leaves c.reload.new.twin) (g.T.Twin.leaves c.reload-2.new.twin) (c.reload-2.ensures.other_stays told_b) (g.T.Twin.leaves c.args.twin.now) (λ x y out left. g.met.T.Twin.sent_now c.args.twin.now x y out told left) (λ x y out left. g.met.T.Twin.sent_now c.reload.new.twin x y out told_b left)
    (c.reload.ensures.rests told) (c.reload.ensures.any_moment told) (c.reload.ensures.other_stays told) (c.reload-2.ensures.rests told_b) (c.reload-2.ensures.any_moment told_b)

pub returns-in_err-second-clause-rests : goal.returns-in_err-second-clause-rests
returns-in_err-second-clause-rests g c = rests g (goal.at.returns-in_err-second-clause-rests g c).After-reload-2

pub returns-in_err-second-clause-refused : goal.returns-in_err-second-clause-refused
returns-in_err-second-clause-refused g c = λ is told.
    c.in_err-second.ensures.refused (error_same _ _ c.from_residual-in_err-second.result c.in_err-second.field-0.0 opening.NotKdcfile c.from_residual-in_err-second.ensures.1 is) (subst IsTrue (sym c.reload.ensures.frame.told) told)

pub returns-in_err-second-clause-other : goal.returns-in_err-second-clause-other
returns-in_err-second-clause-other g c = λ stored is. c.in_err-second.ensures.other stored (error_same _ _ c.from_residual-in_err-second.result c.in_err-second.field-0.0 (opening.OtherGeneration stored) c.from_residual-in_err-second.ensures.1 is)

pub returns-in_err-second-clause-failed : goal.returns-in_err-second-clause-failed
returns-in_err-second-clause-failed g c = λ is. c.in_err-second.ensures.failed (error_same _ _ c.from_residual-in_err-second.result c.in_err-second.field-0.0 opening.Failed c.from_residual-in_err-second.ensures.1 is)

pub returns-in_err-second-clause-frame : goal.returns-in_err-second-clause-frame
returns-in_err-second-clause-frame g c =
    two_frames (g.T.Twin.both c.args.twin.now) (g.T.Twin.both c.reload.new.twin) (g.T.Twin.both c.reload-2.new.twin) c.reload.ensures.other_half c.reload-2.ensures.other_half c.reload.ensures.frame c.reload.ensures.names (λ told. (c.reload.ensures.rests told).sent) c.reload-2.ensures.frame c.reload-2.ensures.names (λ told. (c.reload-2.ensures.rests told).sent)

pub returns-clause-again : goal.returns-clause-again
returns-clause-again g c = record {
  between = c.reload.new.lost;
  middle = g.T.Twin.both c.reload.new.twin;
  first_same = c.in_ok-first.ensures.same;
  second_same = c.in_ok-second.ensures.same;
  first_so = c.in_ok-first.ensures.lost;
  second_so = c.in_ok-second.ensures.lost;
  first_disk = c.reload.ensures.other_half;
  second_disk = c.reload-2.ensures.other_half;
}

pub returns-clause-first_kept : goal.returns-clause-first_kept
returns-clause-first_kept g c = λ told.
    other_kept_at Second c.in_ok-first.first (g.T.Twin.both c.reload.new.twin) (g.T.Twin.both c.reload-2.new.twin) (g.T.Twin.leaves c.reload.new.twin) (g.T.Twin.leaves c.reload-2.new.twin) c.reload-2.ensures.other_half
    (c.reload-2.ensures.other_stays (subst IsTrue (sym c.reload.ensures.frame.told) told)) (c.in_ok-first.ensures.kept told)

pub returns-clause-second_kept : goal.returns-clause-second_kept
returns-clause-second_kept g c = λ told. c.in_ok-second.ensures.kept (subst IsTrue (sym c.reload.ensures.frame.told) told)

pub returns-clause-frame : goal.returns-clause-frame
returns-clause-frame g c =
    two_frames (g.T.Twin.both c.args.twin.now) (g.T.Twin.both c.reload.new.twin) (g.T.Twin.both c.reload-2.new.twin) c.reload.ensures.other_half c.reload-2.ensures.other_half c.reload.ensures.frame c.reload.ensures.names (λ told. (c.reload.ensures.rests told).sent) c.reload-2.ensures.frame c.reload-2.ensures.names (λ told. (c.reload-2.ensures.rests told).sent)

pub returns-clause-rests : goal.returns-clause-rests
returns-clause-rests g c = rests g (goal.at.returns-clause-rests g c).After-reload-2

pub returns-in_err-first-clause-spared : goal.returns-in_err-first-clause-spared
returns-in_err-first-clause-spared g c = let one : SparesOne (with_copies c.args.first c.args.second) (g.T.Twin.both c.args.twin.now) (g.T.Twin.both c.reload.new.twin) = (First, c.in_err-first.ensures.unread.0, c.in_err-first.ensures.unread.1) in on_err _ _ one

pub returns-in_err-first-clause-line : goal.returns-in_err-first-clause-line
returns-in_err-first-clause-line g c = first_line c.args.first c.args.second (g.T.Twin.both c.args.twin.now) (g.T.Twin.both c.reload.new.twin) c.reload.ensures.line

pub returns-in_err-second-clause-spared : goal.returns-in_err-second-clause-spared
returns-in_err-second-clause-spared g c = let one : SparesOne (with_copies c.args.first c.args.second) (g.T.Twin.both c.args.twin.now) (g.T.Twin.both c.reload-2.new.twin) = (Second, c.in_err-second.ensures.unread.0, faults_before Second (g.T.Twin.both c.args.twin.now) (g.T.Twin.both c.reload.new.twin) (g.T.Twin.both c.reload-2.new.twin) c.reload.ensures.other_half c.in_err-second.ensures.unread.1) in on_err _ _ one

pub returns-in_err-second-clause-line : goal.returns-in_err-second-clause-line
returns-in_err-second-clause-line g c = two_line c.args.first c.args.second (g.T.Twin.both c.args.twin.now) (g.T.Twin.both c.reload.new.twin) (g.T.Twin.both c.reload-2.new.twin) c.reload.ensures.other_half c.reload-2.ensures.other_half c.reload.ensures.line c.reload-2.ensures.line

pub returns-clause-line : goal.returns-clause-line
returns-clause-line g c = two_line c.args.first c.args.second (g.T.Twin.both c.args.twin.now) (g.T.Twin.both c.reload.new.twin) (g.T.Twin.both c.reload-2.new.twin) c.reload.ensures.other_half c.reload-2.ensures.other_half c.reload.ensures.line c.reload-2.ensures.line
