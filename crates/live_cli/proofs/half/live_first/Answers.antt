use Rattle.std.proofs.Common.{rules}
use Rattle.kd_device.specs.declared.half.Half.TheVariants.{First}
use Rattle.kd_device.specs.ApartLaws.{since_now}
use Rattle.call_parts.proofs.OneHalf.{frame_given, second_stays}
use Rattle.live_cli.proofs.Halved.{ends_given}
use Rattle.live_cli.proofs.half.live_first.Goals as goal

pub live_on-twin-requires-clause-since : goal.live_on-twin-requires-clause-since
live_on-twin-requires-clause-since g c = let l = g.met.T.Twin in let twin = c.args.twin.now in since_now _ _ (l.sent_now twin) (l.earlier twin) First _

pub returns-clause-ends : goal.returns-clause-ends
returns-clause-ends g c = ends_given g.T.Twin.both g.T.Twin.leaves First _ _ _ _ _ c.live_on-twin.ensures.ends _ (search rules)

pub returns-clause-second : goal.returns-clause-second
returns-clause-second g c = second_stays g.T.Twin.both g.T.Twin.leaves c.live_on-twin.ensures.since _ (search rules)

pub returns-clause-frame : goal.returns-clause-frame
returns-clause-frame g c = frame_given g.T.Twin.both g.T.Twin.leaves c.live_on-twin.ensures.since c.live_on-twin.ensures.ends.frame _ (search rules)
