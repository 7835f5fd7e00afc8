use Rattle.std.proofs.Common.{ap, sym, subst, Err}
use Rattle.std.proofs.lemmas.Bool.{false≢true}
use Rattle.std.specs.Prelude.{IsTrue}
use Rattle.kdcfile_load.specs.declared.fault.LoadError.{LoadError}
use Rattle.carry_cli.proofs.Seen.{foreign_seen, no_sequence, shut_seen}
use Rattle.carry_cli.proofs.seeing.see_other.Goals as goal

pub returns-in-Ok-clause-seen : goal.returns-in-Ok-clause-seen
returns-in-Ok-clause-seen g c = λ told.
    let file = c.in-Ok.ensures.stands told in
    (c.requires.filled told, file, no_sequence c.in-Ok.store _ file (c.requires.none told))

pub returns-then-is_shut-clause-seen : goal.returns-then-is_shut-clause-seen
returns-then-is_shut-clause-seen g c = λ told.
    let a = g.D.Device.state c.args.device.now in
    let b = g.D.Device.state c.load.new.device in
    let told_b : IsTrue b.told = subst IsTrue (sym c.load.ensures.frame.told) told in
    shut_seen a.holds b.holds (c.load.ensures.rests told).holds (c.requires.filled told) ((c.in_ok-is_shut-in-Err-NotKdcfile.ensures.gate told_b).0 c.if-is_shut.true)

pub returns-else-is_shut-clause-seen : goal.returns-else-is_shut-clause-seen
returns-else-is_shut-clause-seen g c = λ told.
    let a = g.D.Device.state c.args.device.now in
    let b = g.D.Device.state c.load.new.device in
    let told_b : IsTrue b.told = subst IsTrue (sym c.load.ensures.frame.told) told in
    foreign_seen a.holds b.holds (c.load.ensures.rests told).holds (λ zero. false≢true (subst IsTrue c.if-is_shut.false ((c.in_ok-is_shut-in-Err-NotKdcfile.ensures.gate told_b).1 zero)))
    (c.in-Err-NotKdcfile.ensures.none (ap (λ (e : LoadError). Err e) c.in-Err-NotKdcfile.field-0-is) told)
