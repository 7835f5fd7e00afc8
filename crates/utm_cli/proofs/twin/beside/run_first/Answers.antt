use Rattle.std.proofs.Common.{rules}
use Rattle.kd_device.specs.declared.half.Half.TheVariants.{First}
use Rattle.kd_device.specs.ApartLaws.{since_now}
use Rattle.utm_cli.proofs.twin.beside.OneHalf.{ends_given}
use Rattle.call_parts.proofs.OneHalf.{frame_given, second_stays}
use Rattle.utm_cli.proofs.twin.beside.run_first.Goals as goal

pub run_on-twin-requires-clause-since : goal.run_on-twin-requires-clause-since
run_on-twin-requires-clause-since g c = let l = g.met.T.Twin in let twin = c.args.twin.now in since_now _ _ (l.sent_now twin) (l.earlier twin) First _

pub returns-clause-ends : goal.returns-clause-ends
returns-clause-ends g c = ends_given g.T.Twin.both g.T.Twin.leaves c.run_on-twin.ensures.since _ _ _ c.run_on-twin.ensures.ends _ (search rules)

pub returns-clause-second : goal.returns-clause-second
returns-clause-second g c = second_stays g.T.Twin.both g.T.Twin.leaves c.run_on-twin.ensures.since _ (search rules)

pub returns-clause-frame : goal.returns-clause-frame
returns-clause-frame g c = frame_given g.T.Twin.both g.T.Twin.leaves c.run_on-twin.ensures.since c.run_on-twin.ensures.ends.frame _ (search rules)
