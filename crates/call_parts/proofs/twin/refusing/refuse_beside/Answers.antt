use Rattle.std.proofs.Common.{rules}
use Rattle.kd_device.specs.declared.half.Half.TheVariants.{First}
use Rattle.kd_device.specs.ApartLaws.{since_now}
use Rattle.call_parts.proofs.OneHalf.{refusal_given}
use Rattle.call_parts.proofs.twin.refusing.refuse_beside.Goals as goal

pub refuse_on-twin-requires-clause-since : goal.refuse_on-twin-requires-clause-since
refuse_on-twin-requires-clause-since g c = let l = g.met.T.Twin in let twin = c.args.twin.now in since_now _ _ (l.sent_now twin) (l.earlier twin) First _

pub returns : goal.returns
returns g c = refusal_given g.T.Twin.both g.T.Twin.leaves c.refuse_on-twin.ensures.since _ _ _ c.refuse_on-twin.ensures.refuses _ (search rules)
