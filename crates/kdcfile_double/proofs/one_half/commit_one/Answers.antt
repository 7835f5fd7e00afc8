use Rattle.std.proofs.Common.{ap, inl, inr, refl, sym, subst}
use Rattle.std.specs.Prelude.{Err, IsTrue, Option}
use Rattle.kdcfile_copies.specs.declared.answer.LoadedCopy.{LoadedCopy}
use Rattle.kdcfile_copies.specs.Beside.{LeavesBeside}
use Rattle.kdcfile_double.specs.Committing.{WithinOne}
use Rattle.kdcfile_double.proofs.one_half.commit_one.Given.{Over}
use Rattle.kdcfile_double.proofs.one_half.commit_one.Goals.{After-commit_half}
use Rattle.kdcfile_double.proofs.one_half.commit_one.Goals as goal

-- a stop within the commit on the half
moment : (g : Over) (c : After-commit_half g) → IsTrue (g.T.Twin.both c.args.twin.now).told → LeavesBeside c.args.half (g.T.Twin.both c.args.twin.now) (g.T.Twin.both c.commit_half.new.twin) (g.T.Twin.leaves c.args.twin.now) (g.T.Twin.leaves c.commit_half.new.twin) (WithinOne c.args.copy c.args.patch.now (g.T.Twin.both c.args.twin.now).sent)
moment g c told = subst (λ (o : Option LoadedCopy). LeavesBeside c.args.half (g.T.Twin.both c.args.twin.now) (g.T.Twin.both c.commit_half.new.twin) (g.T.Twin.leaves c.args.twin.now) (g.T.Twin.leaves c.commit_half.new.twin) (WithinOne o c.args.patch.now (g.T.Twin.both c.args.twin.now).sent)) (sym c.in-Some.is) (c.commit_half.ensures.any_moment told)

pub returns-in-Ok-clause-any_moment : goal.returns-in-Ok-clause-any_moment
returns-in-Ok-clause-any_moment g c = moment g (goal.at.returns-in-Ok-clause-any_moment g c).After-commit_half

pub returns-in-Err-Failed-clause-any_moment : goal.returns-in-Err-Failed-clause-any_moment
returns-in-Err-Failed-clause-any_moment g c = moment g (goal.at.returns-in-Err-Failed-clause-any_moment g c).After-commit_half

pub returns-clause-any_moment : goal.returns-clause-any_moment
returns-clause-any_moment g c = moment g (goal.at.returns-clause-any_moment g c).After-commit_half

pub returns-in-Ok-clause-line : goal.returns-in-Ok-clause-line
returns-in-Ok-clause-line g c = inl (c.in-Ok.ensures.fine (λ is. absurd cc)).line

pub returns-in-Err-Failed-clause-line : goal.returns-in-Err-Failed-clause-line
returns-in-Err-Failed-clause-line g c = inr (c.in-Some.kept, c.in-Some.is, c.in-Err-Failed.ensures.failed (ap (λ z. Err z) c.in-Err-Failed.field-0-is))

pub returns-clause-line : goal.returns-clause-line
returns-clause-line g c = inl (c.commit_half.ensures.fine (λ is. absurd cc)).line

pub returns-clause-used : goal.returns-clause-used
returns-clause-used g c = (c.in-Some.kept, c.in-Some.is)

pub returns-in_default-clause-line : goal.returns-in_default-clause-line
returns-in_default-clause-line g c = inl refl
