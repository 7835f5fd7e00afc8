use Rattle.std.proofs.Common.{sym, ap, subst, ◌∙◌}
use Rattle.std.specs.Prelude.{IsTrue, is_some}
use Rattle.kd_device.specs.Twin.{Disk}
use Rattle.kdcfile_carry.specs.Files.{AreFiles}
use Rattle.kdcfile_carry.specs.Keeping.{files_in}
use Rattle.kdcfile_carry.specs.Leaving.{StaysWithin}
use Rattle.kdcfile_carry.specs.Writing.{Shuts}
use Rattle.kdcfile_carry.specs.WritingLaws.{shuts_copy, shuts_nothing}
use Rattle.kdcfile_carry.proofs.Shutting.{is_shut, may_stay, not_shut, shut_ready, shut_stays}
use Rattle.kdcfile_carry.proofs.carrying.make_ready.Given.{Over}
use Rattle.kdcfile_carry.proofs.carrying.make_ready.Goals.{After-shut_second}
use Rattle.kdcfile_carry.proofs.carrying.make_ready.Goals as goal

pub returns-then-not-shuts_copy-clause-ready : goal.returns-then-not-shuts_copy-clause-ready
returns-then-not-shuts_copy-clause-ready g c = λ told.
    may_stay c.args.kept.now (g.T.Twin.both c.args.twin.now).first.holds (g.T.Twin.both c.args.twin.now).second.holds (is_some c.args.generation.now.double) (c.requires.on_first told) (λ one n is. absurd (not_shut (is_some c.args.generation.now.double) c.args.kept.now.sequence (sym c.shuts_copy.ensures ∙ c.if-not-shuts_copy.true) one n is))

pub returns-then-not-shuts_copy-clause-written : goal.returns-then-not-shuts_copy-clause-written
returns-then-not-shuts_copy-clause-written g c = λ told. shuts_nothing (is_some c.args.generation.now.double) (files_in c.args.kept.now) (g.T.Twin.both c.args.twin.now)

stays : (g : Over) (c : After-shut_second g) → IsTrue (g.T.Twin.both c.args.twin.now).told → StaysWithin (AreFiles (files_in c.args.kept.now)) (g.T.Twin.both c.args.twin.now) (g.T.Twin.both c.shut_second.new.twin) (g.T.Twin.leaves c.args.twin.now) (g.T.Twin.leaves c.shut_second.new.twin)
stays g c told =
    let told_b = subst IsTrue (sym c.shut_second.ensures.frame.told) told in
    shut_stays c.args.kept.now (g.T.Twin.both c.args.twin.now) (g.T.Twin.both c.shut_second.new.twin) (g.T.Twin.leaves c.args.twin.now) (g.T.Twin.leaves c.shut_second.new.twin) (c.requires.on_first told) (c.requires.at_rest told)
    (λ x y out left. g.met.T.Twin.sent_now c.args.twin.now x y out told left) (c.shut_second.ensures.sent told) (λ t u x y out le left. g.met.T.Twin.earlier c.shut_second.new.twin t u x y out told_b le left) (c.shut_second.ensures.any_moment told)

writes : (g : Over) (c : After-shut_second g) → IsTrue (g.T.Twin.both c.args.twin.now).told → Shuts (is_some c.args.generation.now.double) (files_in c.args.kept.now) (g.T.Twin.both c.args.twin.now) (g.T.Twin.both c.shut_second.new.twin)
writes g c told =
    let is = is_shut (is_some c.args.generation.now.double) c.args.kept.now.sequence (sym c.shuts_copy.ensures ∙ c.if-not-shuts_copy.false) in
    shuts_copy (is_some c.args.generation.now.double) (files_in c.args.kept.now) (g.T.Twin.both c.args.twin.now) (g.T.Twin.both c.shut_second.new.twin) is.1.0 is.0 is.1.1 (ap (λ (x : Disk). x.put) c.shut_second.ensures.other_half) (c.shut_second.ensures.put_most told)

pub returns-in_err-shut_second-clause-any_moment : goal.returns-in_err-shut_second-clause-any_moment
returns-in_err-shut_second-clause-any_moment g c = stays g (goal.at.returns-in_err-shut_second-clause-any_moment g c).After-shut_second

pub returns-in_err-shut_second-clause-written : goal.returns-in_err-shut_second-clause-written
returns-in_err-shut_second-clause-written g c = writes g (goal.at.returns-in_err-shut_second-clause-written g c).After-shut_second

pub returns-clause-any_moment : goal.returns-clause-any_moment
returns-clause-any_moment g c = stays g (goal.at.returns-clause-any_moment g c).After-shut_second

pub returns-clause-written : goal.returns-clause-written
returns-clause-written g c = writes g (goal.at.returns-clause-written g c).After-shut_second

pub returns-clause-ready : goal.returns-clause-ready
returns-clause-ready g c = λ told.
    shut_ready c.args.kept.now (g.T.Twin.both c.args.twin.now) (g.T.Twin.both c.shut_second.new.twin) (g.T.Twin.leaves c.args.twin.now) (g.T.Twin.leaves c.shut_second.new.twin) (c.requires.on_first told) (c.requires.at_rest told)
    (is_some c.args.generation.now.double) (c.in_ok-shut_second.ensures.shut told) c.shut_second.ensures.other_half
