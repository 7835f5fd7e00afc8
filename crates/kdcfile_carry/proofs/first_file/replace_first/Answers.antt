use Rattle.std.proofs.Common.{rules}
use Rattle.kd_device.specs.declared.half.Half.TheVariants.{First}
use Rattle.kd_device.specs.ApartLaws.{since_now}
use Rattle.kdcfile_copies.proofs.kdcfile_halves.HalfUsed.{beside, other_stays}
use Rattle.kdcfile_carry.proofs.FirstUsed.{used_fine, used_frame}
use Rattle.kdcfile_carry.proofs.first_file.replace_first.Goals as goal

pub replace_on-done-requires-clause-since : goal.replace_on-done-requires-clause-since
replace_on-done-requires-clause-since g c = let l = g.met.T.Twin in let twin = c.args.twin.now in since_now _ _ (l.sent_now twin) (l.earlier twin) First _

pub replace_on-done-requires-clause-kept : goal.replace_on-done-requires-clause-kept
replace_on-done-requires-clause-kept g c = λ told. record { bytes = c.requires.kept told; at_rest = λ x left. (c.requires.at_rest told).first_rests x left.0 left.1 }

pub returns-clause-any_moment : goal.returns-clause-any_moment
returns-clause-any_moment g c = beside g.T.Twin.both g.T.Twin.leaves c.replace_on-done.ensures.since _ c.replace_on-done.ensures.any_moment _ (search rules)

pub returns-clause-other_stays : goal.returns-clause-other_stays
returns-clause-other_stays g c = other_stays g.T.Twin.both g.T.Twin.leaves c.replace_on-done.ensures.since (g.met.T.Twin.earlier c.replace_on-done.result.0.now) _ (search rules)

pub returns-clause-frame : goal.returns-clause-frame
returns-clause-frame g c = used_frame g.T.Twin.both g.T.Twin.leaves c.replace_on-done.ensures.since c.replace_on-done.ensures.frame c.replace_on-done.ensures.names c.replace_on-done.ensures.sent _ (search rules)

pub returns-clause-fine : goal.returns-clause-fine
returns-clause-fine g c = λ none. used_fine g.T.Twin.both g.T.Twin.leaves c.replace_on-done.ensures.since (c.replace_on-done.ensures.fine none) _ (search rules)
