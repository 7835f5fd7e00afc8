use Rattle.std.proofs.Common.{sym, subst, List}
use Rattle.kdcfile_layout.specs.Layout.{StandsFor}
use Rattle.kdcs_types.specs.declared.act.Act.{Act}
use Rattle.device_acts.specs.MeaningLaws.{kept_means}
use Rattle.device_acts.specs.Stands.{StandsForTables}
use Rattle.device_acts.specs.Acting.{AreCommittable, WithinActs, content_after}
use Rattle.device_acts.specs.LinesLaws.{lines_can, lines_within}
use Rattle.kdcfile_update.proofs.sending.send.Goals as goal

pub do_acts-requires-clause-can : goal.do_acts-requires-clause-can
do_acts-requires-clause-can g c =
    let store = c.args.store.now in
    subst (λ (l : List Act). AreCommittable store.identity store.content l) (sym c.as_slice.ensures) (lines_can store.identity store.content c.args.report.now c.requires.lines)

pub returns-clause-any : goal.returns-clause-any
returns-clause-any g c = λ i t keeps.
    let store = c.args.store.now in
    let a = g.D.Device.state c.args.device.now in
    let b = g.D.Device.state c.do_acts.new.device in
    let la = g.D.Device.leaves c.args.device.now in
    let lb = g.D.Device.leaves c.do_acts.new.device in
    lines_within (StandsFor store.identity) store.content (StandsForTables i) t (kept_means i store t keeps) c.args.report.now c.requires.lines a b la lb
    (subst (λ (l : List Act). WithinActs content_after (StandsFor store.identity) store.content l a b la lb) c.as_slice.ensures c.do_acts.ensures.any)
