use Rattle.std.proofs.Common.{◌≡◌, ◌⊎◌, ◌≤◌, ◌+◌, ℕ, [], inl, sym, subst}
use Rattle.std.specs.Prelude.{IsTrue}
use Rattle.kd_records.specs.Charge.{total_charge}
use Rattle.kd_records.specs.Contents.{IsContent}
use Rattle.table_fit.specs.ShortLaws.{suiting_tables_are_short}
use Rattle.device_acts.specs.ContentLaws.{content_charged, content_there}
use Rattle.kdcfile_double.specs.MendLaws.{on_ok}
use Rattle.kdcfile_carry.specs.Writing.{backup_most}
use Rattle.kdcfile_carry.proofs.Sizes.{written_since}
use Rattle.kdcfile_carry.proofs.backing.write_down.Given.{Over}
use Rattle.kdcfile_carry.proofs.backing.write_down.Goals.{After-write_content}
use Rattle.kdcfile_carry.proofs.backing.write_down.Goals as goal

pub records-requires : goal.records-requires
records-requires g c = suiting_tables_are_short c.args.generation.now c.args.tables.now c.max-limits.ensures.sound.limits c.requires.suits c.requires.tables.proper

pub write_content-requires-clause-content : goal.write_content-requires-clause-content
write_content-requires-clause-content g c = subst IsContent (sym c.in_ok-content.ensures) (content_there c.args.generation.now c.args.tables.now c.max-limits.ensures.sound.limits c.requires.tables c.requires.suits)

pub write_content-requires-clause-charge : goal.write_content-requires-clause-charge
write_content-requires-clause-charge g c =
    subst (λ x. total_charge c.args.generation.now.limits.blksize x.items ≤ c.args.generation.now.limits.pgpool) (sym c.in_ok-content.ensures) (content_charged c.args.generation.now c.args.tables.now c.requires.tables.proper c.requires.suits)

pub returns-in_err-empty-clause-put_most : goal.returns-in_err-empty-clause-put_most
returns-in_err-empty-clause-put_most g c = λ told. inl (c.is_empty.ensures.rests told).put

pub returns-then-not-empty-clause-put_most : goal.returns-then-not-empty-clause-put_most
returns-then-not-empty-clause-put_most g c = λ told. inl (c.is_empty.ensures.rests told).put

pub returns-in_err-content-clause-put_most : goal.returns-in_err-content-clause-put_most
returns-in_err-content-clause-put_most g c = λ told. inl (c.is_empty.ensures.rests told).put

writes : (g : Over) (c : After-write_content g) → IsTrue (g.D.Device.state c.args.to.now).told → ((g.D.Device.state c.write_content.new.device).put ≡ (g.D.Device.state c.args.to.now).put)
    ⊎ (((g.D.Device.state c.args.to.now).holds ≡ []) × ((g.D.Device.state c.write_content.new.device).put ≤ (g.D.Device.state c.args.to.now).put + backup_most c.args.generation.now c.args.fingerprint.now c.args.tables.now))
writes g c told =
    let rests = c.is_empty.ensures.rests told in
    written_since c.args.generation.now c.args.fingerprint.now c.args.tables.now (g.D.Device.state c.args.to.now) (g.D.Device.state c.is_empty.new.device) (g.D.Device.state c.write_content.new.device) c.in_ok-content.content c.in_ok-content.ensures
    ((c.in_ok-empty.ensures.value told).0 c.if-not-empty.false) rests.put (c.write_content.ensures.put_most (subst IsTrue (sym c.is_empty.ensures.frame.told) told))

pub returns-in_err-written-clause-put_most : goal.returns-in_err-written-clause-put_most
returns-in_err-written-clause-put_most g c = writes g (goal.at.returns-in_err-written-clause-put_most g c).After-write_content

pub returns-clause-put_most : goal.returns-clause-put_most
returns-clause-put_most g c = λ told.
    let told_b : IsTrue (g.D.Device.state c.is_empty.new.device).told = subst IsTrue (sym c.is_empty.ensures.frame.told) told in
    let told_d : IsTrue (g.D.Device.state c.write_content.new.device).told = subst IsTrue (sym c.write_content.ensures.frame.told) told_b in
    subst (λ (n : ℕ). (n ≡ (g.D.Device.state c.args.to.now).put) ⊎ (((g.D.Device.state c.args.to.now).holds ≡ []) × (n ≤ (g.D.Device.state c.args.to.now).put + backup_most c.args.generation.now c.args.fingerprint.now c.args.tables.now)))
    (sym (c.read_back.ensures.rests told_d).put) (writes g (goal.at.returns-clause-put_most g c).After-write_content told)

pub returns-clause-at_rest : goal.returns-clause-at_rest
returns-clause-at_rest g c = on_ok c.read_back.result _
    (λ told.
    let told_b : IsTrue (g.D.Device.state c.is_empty.new.device).told = subst IsTrue (sym c.is_empty.ensures.frame.told) told in
    c.read_back.ensures.at_rest (subst IsTrue (sym c.write_content.ensures.frame.told) told_b))
