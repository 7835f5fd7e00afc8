use Rattle.std.proofs.Common.{rules}
use Rattle.kd_device.specs.ApartLaws.{since_now}
use Rattle.kdcfile_copies.proofs.kdcfile_halves.HalfUsed.{other_stays, beside}
use Rattle.kdcfile_copies.proofs.kdcfile_halves.committing.commit_half.Goals as goal

pub commit_on-done-requires-clause-since : goal.commit_on-done-requires-clause-since
commit_on-done-requires-clause-since g c = let l = g.met.T.Twin in let twin = c.args.twin.now in since_now _ _ (l.sent_now twin) (l.earlier twin) c.args.half _

pub returns-clause-any_moment : goal.returns-clause-any_moment
returns-clause-any_moment g c = beside g.T.Twin.both g.T.Twin.leaves c.commit_on-done.ensures.since _ c.commit_on-done.ensures.any_moment _ (search rules)

pub returns-clause-other_stays : goal.returns-clause-other_stays
returns-clause-other_stays g c = other_stays g.T.Twin.both g.T.Twin.leaves c.commit_on-done.ensures.since (g.met.T.Twin.earlier c.commit_on-done.result.0.now) _ (search rules)
