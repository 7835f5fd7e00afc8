use Rattle.std.proofs.Common.{rules}
use Rattle.kd_device.specs.ApartLaws.{since_now}
use Rattle.kdcfile_copies.proofs.kdcfile_halves.HalfUsed.{other_stays, beside, no_copy}
use Rattle.kdcfile_copies.proofs.kdcfile_halves.making.make_half.Goals as goal

pub make_on-twin-requires-clause-since : goal.make_on-twin-requires-clause-since
make_on-twin-requires-clause-since g c = let l = g.met.T.Twin in let twin = c.args.twin.now in since_now _ _ (l.sent_now twin) (l.earlier twin) c.args.half _

pub returns-clause-any_moment : goal.returns-clause-any_moment
returns-clause-any_moment g c = beside g.T.Twin.both g.T.Twin.leaves c.make_on-twin.ensures.since _ c.make_on-twin.ensures.any_moment _ (search rules)

pub returns-clause-other_stays : goal.returns-clause-other_stays
returns-clause-other_stays g c = other_stays g.T.Twin.both g.T.Twin.leaves c.make_on-twin.ensures.since (g.met.T.Twin.earlier c.make_on-twin.result.0.now) _ (search rules)

pub returns-clause-memory : goal.returns-clause-memory
returns-clause-memory g c = λ is. no_copy g.T.Twin.both g.T.Twin.leaves c.make_on-twin.ensures.since (c.make_on-twin.ensures.memory is) _ (search rules)
