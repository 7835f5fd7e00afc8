use Rattle.std.proofs.Common.{inr, rules, sym, subst}
use Rattle.kd_device.specs.Device.{Rose}
use Rattle.std.specs.Prelude.{IsTrue}
use Rattle.kd_device.specs.Twin.{Disk}
use Rattle.kdcfile_copies.specs.Finding.{IsAnswer}
use Rattle.kdcfile_double.specs.MakingLaws.{RestsBoth, first_rests_both, two_at_rest, two_fine, two_frames, two_rests}
use Rattle.kdcfile_double.proofs.reading.read_both.Given.{Over}
use Rattle.kdcfile_double.proofs.reading.read_both.Goals.{After-load_half-2}
use Rattle.kdcfile_double.proofs.reading.read_both.Goals as goal

pub returns-in_err-first-clause-rests : goal.returns-in_err-first-clause-rests
returns-in_err-first-clause-rests g c = λ told.
    let tw = c.args.twin.now in
    first_rests_both (g.T.Twin.both tw) (g.T.Twin.both c.load_half.new.twin) (g.T.Twin.leaves tw) (g.T.Twin.leaves c.load_half.new.twin) (λ x y out left. g.met.T.Twin.sent_now tw x y out told left)
    (c.load_half.ensures.rests told) (c.load_half.ensures.any_moment told) c.load_half.ensures.other_half (c.load_half.ensures.other_stays told)

-- both files stay as they are
rests : (g : Over) (c : After-load_half-2 g) → IsTrue (g.T.Twin.both c.args.twin.now).told → RestsBoth (g.T.Twin.both c.args.twin.now) (g.T.Twin.both c.load_half-2.new.twin) (g.T.Twin.leaves c.args.twin.now) (g.T.Twin.leaves c.load_half-2.new.twin)
rests g c told =
    let told_b : IsTrue (g.T.Twin.both c.load_half.new.twin).told = subst IsTrue (sym c.load_half.ensures.frame.told) told in
    two_rests (g.T.Twin.both c.args.twin.now) (g.T.Twin.both c.load_half.new.twin) (g.T.Twin.both c.load_half-2.new.twin) c.load_half.ensures.other_half c.load_half-2.ensures.other_half (g.T.Twin.leaves c.load_half.new.twin) (g.T.Twin.leaves c.load_half-2.new.twin) (c.load_half-2.ensures.other_stays told_b) (g.T.Twin.leaves c.args.twin.now) (λ x y out left. g.met.T.Twin.sent_now c.args.twin.now x y out told left) (λ x y out left. g.met.T.Twin.sent_now c.load_half.new.twin x y out told_b left)
    (c.load_half.ensures.rests told) (c.load_half.ensures.any_moment told) (c.load_half.ensures.other_stays told) (c.load_half-2.ensures.rests told_b) (c.load_half-2.ensures.any_moment told_b)

pub returns-in_err-second-clause-rests : goal.returns-in_err-second-clause-rests
returns-in_err-second-clause-rests g c = rests g (goal.at.returns-in_err-second-clause-rests g c).After-load_half-2

pub returns-in_err-second-clause-failed : goal.returns-in_err-second-clause-failed
returns-in_err-second-clause-failed g c = λ is. inr (subst (λ (x : Disk). Rose x.disk_faults (g.T.Twin.both c.load_half-2.new.twin).second.disk_faults) c.load_half.ensures.other_half (c.in_err-second.ensures.failed (search rules)))

pub returns-clause-second_answer : goal.returns-clause-second_answer
returns-clause-second_answer g c = λ told.
    let told_b : IsTrue (g.T.Twin.both c.load_half.new.twin).told = subst IsTrue (sym c.load_half.ensures.frame.told) told in
    subst (λ (x : Disk). IsAnswer c.in_ok-second.second x.holds) c.load_half.ensures.other_half (c.in_ok-second.ensures.answer told_b)

pub returns-clause-at_rest : goal.returns-clause-at_rest
returns-clause-at_rest g c = λ told.
    let told_b : IsTrue (g.T.Twin.both c.load_half.new.twin).told = subst IsTrue (sym c.load_half.ensures.frame.told) told in
    two_at_rest (g.T.Twin.both c.args.twin.now) (g.T.Twin.both c.load_half.new.twin) (g.T.Twin.both c.load_half-2.new.twin) c.load_half.ensures.other_half c.load_half-2.ensures.other_half (g.T.Twin.leaves c.load_half.new.twin) (g.T.Twin.leaves c.load_half-2.new.twin) (c.load_half-2.ensures.other_stays told_b) (IsAnswer c.in_ok-first.first) (IsAnswer c.in_ok-second.second) (c.in_ok-first.ensures.kept told) (c.in_ok-second.ensures.kept told_b)

pub returns-clause-fine : goal.returns-clause-fine
returns-clause-fine g c = λ none. two_fine (g.T.Twin.both c.args.twin.now) (g.T.Twin.both c.load_half.new.twin) (g.T.Twin.both c.load_half-2.new.twin) c.load_half.ensures.other_half c.load_half-2.ensures.other_half (c.in_ok-first.ensures.fine (λ is. absurd cc)) (c.in_ok-second.ensures.fine (λ is. absurd cc))

pub returns-clause-frame : goal.returns-clause-frame
returns-clause-frame g c =
    two_frames (g.T.Twin.both c.args.twin.now) (g.T.Twin.both c.load_half.new.twin) (g.T.Twin.both c.load_half-2.new.twin) c.load_half.ensures.other_half c.load_half-2.ensures.other_half c.load_half.ensures.frame c.load_half.ensures.names (λ told. (c.load_half.ensures.rests told).sent) c.load_half-2.ensures.frame c.load_half-2.ensures.names (λ told. (c.load_half-2.ensures.rests told).sent)

pub returns-clause-rests : goal.returns-clause-rests
returns-clause-rests g c = rests g (goal.at.returns-clause-rests g c).After-load_half-2
