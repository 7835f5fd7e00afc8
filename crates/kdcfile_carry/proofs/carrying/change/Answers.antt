use Rattle.std.proofs.Common.{◌≤◌, ◌+◌, ℕ, sym, ap, subst, ◌∙◌}
use Rattle.std.specs.Prelude.{IsTrue}
use Rattle.kd_device.specs.Twin.{Disk}
use Rattle.kd_records.specs.Charge.{total_charge}
use Rattle.kd_records.specs.Identity.{Identity, IsIdentity}
use Rattle.kdcfile_store.specs.Paged.{identity_with}
use Rattle.kdcfile_update.specs.Parts.{CanCarry}
use Rattle.kdcfile_carry.specs.Doing.{AreEither}
use Rattle.kdcfile_carry.specs.Keeping.{files_in}
use Rattle.kdcfile_carry.specs.Leaving.{StaysWithin}
use Rattle.kdcfile_carry.specs.Ways.{carried_files, made_with}
use Rattle.kdcfile_carry.specs.Writing.{commit_most}
use Rattle.kdcfile_carry.proofs.Changing.{change_stays, changed_files, changed_rest, changed_source, commit_is}
use Rattle.kdcfile_carry.proofs.NewTables.{can_replace, new_are_tables}
use Rattle.kdcfile_carry.proofs.carrying.change.Given.{Over}
use Rattle.kdcfile_carry.proofs.carrying.change.Goals.{After-new_limits-limits, After-replace_first}
use Rattle.kdcfile_carry.proofs.carrying.change.Goals as goal

can : (g : Over) (c : After-new_limits-limits g) → CanCarry (made_with c.args.generation.now c.args.fingerprint.now).blksize (made_with c.args.generation.now c.args.fingerprint.now).pages c.args.kept.now.file.store c.args.content
can g c =
    can_replace c.args.generation.now c.args.kept.now c.requires.known c.new_limits-limits.ensures.limits c.requires.may.judged c.args.fingerprint.now
    (subst IsIdentity c.new_limits-limits.ensures.made c.new_limits-limits.ensures.identity) c.args.content c.requires.content

pub replace_first-requires-clause-kept : goal.replace_first-requires-clause-kept
replace_first-requires-clause-kept g c = λ told. (c.requires.ready told).has

pub replace_first-requires-clause-blksize : goal.replace_first-requires-clause-blksize
replace_first-requires-clause-blksize g c = ap (λ (i : Identity). i.blksize) c.new_limits-limits.ensures.made ∙ (can g (goal.at.replace_first-requires-clause-blksize g c).After-new_limits-limits).block

pub replace_first-requires-clause-pgpool : goal.replace_first-requires-clause-pgpool
replace_first-requires-clause-pgpool g c = subst (λ (n : ℕ). c.args.kept.now.file.store.identity.pages ≤ n) (sym (ap (λ (i : Identity). i.pages) c.new_limits-limits.ensures.made)) (can g (goal.at.replace_first-requires-clause-pgpool g c).After-new_limits-limits).pool

pub replace_first-requires-clause-content : goal.replace_first-requires-clause-content
replace_first-requires-clause-content g c = (can g (goal.at.replace_first-requires-clause-content g c).After-new_limits-limits).content

pub replace_first-requires-clause-charge_before : goal.replace_first-requires-clause-charge_before
replace_first-requires-clause-charge_before g c = (can g (goal.at.replace_first-requires-clause-charge_before g c).After-new_limits-limits).before

pub replace_first-requires-clause-charge_after : goal.replace_first-requires-clause-charge_after
replace_first-requires-clause-charge_after g c = subst (λ (i : Identity). total_charge i.blksize c.args.content.items ≤ i.pages) (sym c.new_limits-limits.ensures.made) (can g (goal.at.replace_first-requires-clause-charge_after g c).After-new_limits-limits).after

stays : (g : Over) (c : After-replace_first g) → IsTrue (g.T.Twin.both c.args.twin.now).told → StaysWithin (AreEither (files_in c.args.kept.now) (carried_files c.args.generation.now c.args.fingerprint.now (files_in c.args.kept.now))) (g.T.Twin.both c.args.twin.now) (g.T.Twin.both c.replace_first.new.twin) (g.T.Twin.leaves c.args.twin.now) (g.T.Twin.leaves c.replace_first.new.twin)
stays g c told =
    let told_b = subst IsTrue (sym c.replace_first.ensures.frame.told) told in
    change_stays c.args.generation.now c.args.fingerprint.now c.args.kept.now c.requires.known (new_are_tables c.args.generation.now c.args.kept.now c.requires.known c.new_limits-limits.ensures.limits c.requires.may.judged) c.requires.may.small
    (identity_with c.new_limits-limits.result c.args.fingerprint.now) c.args.content c.new_limits-limits.ensures.made c.requires.content
    (g.T.Twin.both c.args.twin.now) (g.T.Twin.both c.replace_first.new.twin) (g.T.Twin.leaves c.args.twin.now) (g.T.Twin.leaves c.replace_first.new.twin) (c.requires.ready told) (c.requires.at_rest told)
    (λ x y out left. g.met.T.Twin.sent_now c.args.twin.now x y out told left) (c.replace_first.ensures.sent told) (λ t u x y out le left. g.met.T.Twin.earlier c.replace_first.new.twin t u x y out told_b le left) (c.replace_first.ensures.any_moment told)

pub returns-in_err-replace_first-clause-any_moment : goal.returns-in_err-replace_first-clause-any_moment
returns-in_err-replace_first-clause-any_moment g c = stays g (goal.at.returns-in_err-replace_first-clause-any_moment g c).After-replace_first

pub returns-clause-any_moment : goal.returns-clause-any_moment
returns-clause-any_moment g c = stays g (goal.at.returns-clause-any_moment g c).After-replace_first

pub returns-clause-files : goal.returns-clause-files
returns-clause-files g c = λ told.
    changed_files c.args.generation.now c.args.fingerprint.now c.args.kept.now c.requires.known (new_are_tables c.args.generation.now c.args.kept.now c.requires.known c.new_limits-limits.ensures.limits c.requires.may.judged) c.requires.may.small
    (identity_with c.new_limits-limits.result c.args.fingerprint.now) c.args.content c.new_limits-limits.ensures.made c.requires.content
    (g.T.Twin.both c.args.twin.now) (g.T.Twin.both c.replace_first.new.twin) (g.T.Twin.leaves c.args.twin.now) (g.T.Twin.leaves c.replace_first.new.twin) (c.requires.ready told) (c.requires.at_rest told)
    c.replace_first.new.store c.in_ok-replace_first.ensures.identity c.in_ok-replace_first.ensures.content (c.in_ok-replace_first.ensures.kept told) c.replace_first.ensures.other_half (c.replace_first.ensures.other_stays told)

pub returns-clause-source : goal.returns-clause-source
returns-clause-source g c = λ told n is.
    changed_source c.args.generation.now c.args.fingerprint.now c.args.kept.now c.requires.known (new_are_tables c.args.generation.now c.args.kept.now c.requires.known c.new_limits-limits.ensures.limits c.requires.may.judged) c.requires.may.small
    (identity_with c.new_limits-limits.result c.args.fingerprint.now) c.args.content c.new_limits-limits.ensures.made c.requires.content
    (g.T.Twin.both c.args.twin.now) (g.T.Twin.both c.replace_first.new.twin) (g.T.Twin.leaves c.args.twin.now) (g.T.Twin.leaves c.replace_first.new.twin) (c.requires.ready told) (c.requires.at_rest told)
    c.replace_first.new.store c.in_ok-replace_first.ensures.identity c.in_ok-replace_first.ensures.content (c.in_ok-replace_first.ensures.kept told) c.replace_first.ensures.other_half (c.replace_first.ensures.other_stays told) n is

pub returns-clause-at_rest : goal.returns-clause-at_rest
returns-clause-at_rest g c = λ told.
    changed_rest c.args.generation.now c.args.fingerprint.now c.args.kept.now c.requires.known (new_are_tables c.args.generation.now c.args.kept.now c.requires.known c.new_limits-limits.ensures.limits c.requires.may.judged) c.requires.may.small
    (identity_with c.new_limits-limits.result c.args.fingerprint.now) c.args.content c.new_limits-limits.ensures.made c.requires.content
    (g.T.Twin.both c.args.twin.now) (g.T.Twin.both c.replace_first.new.twin) (g.T.Twin.leaves c.args.twin.now) (g.T.Twin.leaves c.replace_first.new.twin) (c.requires.ready told) (c.requires.at_rest told)
    c.replace_first.new.store c.in_ok-replace_first.ensures.identity c.in_ok-replace_first.ensures.content (c.in_ok-replace_first.ensures.kept told) c.replace_first.ensures.other_half (c.replace_first.ensures.other_stays told)

puts : (g : Over) (c : After-replace_first g) → IsTrue (g.T.Twin.both c.args.twin.now).told → (g.T.Twin.both c.replace_first.new.twin).first.put ≤ (g.T.Twin.both c.args.twin.now).first.put + commit_most c.args.generation.now c.args.fingerprint.now (files_in c.args.kept.now)
puts g c told =
    subst (λ (m : ℕ). (g.T.Twin.both c.replace_first.new.twin).first.put ≤ (g.T.Twin.both c.args.twin.now).first.put + m)
    (commit_is c.args.generation.now c.args.fingerprint.now (files_in c.args.kept.now) (identity_with c.new_limits-limits.result c.args.fingerprint.now) c.args.content c.new_limits-limits.ensures.made c.requires.content) (c.replace_first.ensures.put_most told)

pub returns-in_err-replace_first-clause-put_most : goal.returns-in_err-replace_first-clause-put_most
returns-in_err-replace_first-clause-put_most g c = puts g (goal.at.returns-in_err-replace_first-clause-put_most g c).After-replace_first

pub returns-clause-put_most : goal.returns-clause-put_most
returns-clause-put_most g c = puts g (goal.at.returns-clause-put_most g c).After-replace_first

pub returns-in_err-replace_first-clause-other_put : goal.returns-in_err-replace_first-clause-other_put
returns-in_err-replace_first-clause-other_put g c = λ told. ap (λ (x : Disk). x.put) c.replace_first.ensures.other_half

pub returns-clause-other_put : goal.returns-clause-other_put
returns-clause-other_put g c = λ told. ap (λ (x : Disk). x.put) c.replace_first.ensures.other_half
