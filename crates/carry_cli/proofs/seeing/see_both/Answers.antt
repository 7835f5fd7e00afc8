use Rattle.std.proofs.Common.{sym, subst}
use Rattle.std.specs.Prelude.{IsTrue}
use Rattle.kdcfile_double.specs.MakingLaws.{RestsBoth, first_rests_both, two_rests}
use Rattle.carry_cli.proofs.seeing.see_both.Given.{Over}
use Rattle.carry_cli.proofs.seeing.see_both.Goals.{After-see_half-2}
use Rattle.carry_cli.proofs.seeing.see_both.Goals as goal

pub returns-in_err-first-clause-rests : goal.returns-in_err-first-clause-rests
returns-in_err-first-clause-rests g c = λ told.
    let tw = c.args.twin.now in
    first_rests_both (g.T.Twin.both tw) (g.T.Twin.both c.see_half.new.twin) (g.T.Twin.leaves tw) (g.T.Twin.leaves c.see_half.new.twin) (λ x y out left. g.met.T.Twin.sent_now tw x y out told left)
    (c.see_half.ensures.rests told) (c.see_half.ensures.any_moment told) c.see_half.ensures.other_half (c.see_half.ensures.other_stays told)

-- both files stay as they are
rests : (g : Over) (c : After-see_half-2 g) → IsTrue (g.T.Twin.both c.args.twin.now).told → RestsBoth (g.T.Twin.both c.args.twin.now) (g.T.Twin.both c.see_half-2.new.twin) (g.T.Twin.leaves c.args.twin.now) (g.T.Twin.leaves c.see_half-2.new.twin)
rests g c told =
    let told_b : IsTrue (g.T.Twin.both c.see_half.new.twin).told = subst IsTrue (sym c.see_half.ensures.frame.told) told in
    two_rests (g.T.Twin.both c.args.twin.now) (g.T.Twin.both c.see_half.new.twin) (g.T.Twin.both c.see_half-2.new.twin) c.see_half.ensures.other_half c.see_half-2.ensures.other_half (g.T.Twin.leaves c.see_half.new.twin) (g.T.Twin.leaves c.see_half-2.new.twin) (c.see_half-2.ensures.other_stays told_b) (g.T.Twin.leaves c.args.twin.now) (λ x y out left. g.met.T.Twin.sent_now c.args.twin.now x y out told left) (λ x y out left. g.met.T.Twin.sent_now c.see_half.new.twin x y out told_b left)
    (c.see_half.ensures.rests told) (c.see_half.ensures.any_moment told) (c.see_half.ensures.other_stays told) (c.see_half-2.ensures.rests told_b) (c.see_half-2.ensures.any_moment told_b)

pub returns-in_err-second-clause-rests : goal.returns-in_err-second-clause-rests
returns-in_err-second-clause-rests g c = rests g (goal.at.returns-in_err-second-clause-rests g c).After-see_half-2

pub returns-clause-rests : goal.returns-clause-rests
returns-clause-rests g c = rests g (goal.at.returns-clause-rests g c).After-see_half-2
