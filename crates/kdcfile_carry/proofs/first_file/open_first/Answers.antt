use Rattle.std.proofs.Common.{rules}
use Rattle.kd_device.specs.declared.half.Half.TheVariants.{First}
use Rattle.kd_device.specs.ApartLaws.{since_now}
use Rattle.kdcfile_carry.proofs.FirstUsed.{used_fine, used_frame, used_rests}
use Rattle.kdcfile_carry.proofs.first_file.open_first.Goals as goal

pub open_on-twin-requires-clause-since : goal.open_on-twin-requires-clause-since
open_on-twin-requires-clause-since g c = let l = g.met.T.Twin in let twin = c.args.twin.now in since_now _ _ (l.sent_now twin) (l.earlier twin) First _

pub returns-clause-rests : goal.returns-clause-rests
returns-clause-rests g c =
    used_rests g.T.Twin.both g.T.Twin.leaves c.open_on-twin.ensures.since c.open_on-twin.ensures.rests (g.met.T.Twin.earlier c.open_on-twin.result.0.now)
    (λ told x y out left. g.met.T.Twin.sent_now c.args.twin.now x y out told left) _ (search rules)

pub returns-clause-frame : goal.returns-clause-frame
returns-clause-frame g c =
    used_frame g.T.Twin.both g.T.Twin.leaves c.open_on-twin.ensures.since c.open_on-twin.ensures.frame c.open_on-twin.ensures.names (λ told. (c.open_on-twin.ensures.rests told).sent) _ (search rules)

pub returns-clause-fine : goal.returns-clause-fine
returns-clause-fine g c = λ none. used_fine g.T.Twin.both g.T.Twin.leaves c.open_on-twin.ensures.since (c.open_on-twin.ensures.fine none) _ (search rules)
