use Rattle.std.proofs.Common.{rules}
use Rattle.kd_device.specs.ApartLaws.{since_now}
use Rattle.kdcfile_copies.proofs.kdcfile_halves.HalfUsed.{other_stays, rests_beside}
use Rattle.carry_cli.proofs.seeing.see_half.Goals as goal

pub see_on-twin-requires-clause-since : goal.see_on-twin-requires-clause-since
see_on-twin-requires-clause-since g c = let l = g.met.T.Twin in let twin = c.args.twin.now in since_now _ _ (l.sent_now twin) (l.earlier twin) c.args.half _

pub returns-clause-any_moment : goal.returns-clause-any_moment
returns-clause-any_moment g c = rests_beside g.T.Twin.both g.T.Twin.leaves c.see_on-twin.ensures.since c.see_on-twin.ensures.rests _ (search rules)

pub returns-clause-other_stays : goal.returns-clause-other_stays
returns-clause-other_stays g c = other_stays g.T.Twin.both g.T.Twin.leaves c.see_on-twin.ensures.since (g.met.T.Twin.earlier c.see_on-twin.result.0.now) _ (search rules)
