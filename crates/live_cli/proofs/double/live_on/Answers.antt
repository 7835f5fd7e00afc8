use Rattle.kdcfile_store.specs.Paged.{identity_with}
use Rattle.twin_run.proofs.Handing.{failed_both, not_failed_both}
use Rattle.twin_run.proofs.Keepers.{fails_made, fine_made, frame_made, kept_made, open_made, running_made, since_made, told_made}
use Rattle.live_cli.proofs.OverTwo.{lived_given}
use Rattle.live_cli.proofs.double.live_on.Goals as goal

pub new-keeper-requires-clause-copies : goal.new-keeper-requires-clause-copies
new-keeper-requires-clause-copies g c =
    since_made g.T.Twin.both g.T.Twin.leaves g.S.Start.store c.args.store g.S.Origin.both c.args.twin c.requires.copies c.requires.begins (identity_with c.args.limits c.args.fingerprint.now) c.requires.identity c.requires.is_open

pub live_with-ended-requires-clause-ready : goal.live_with-ended-requires-clause-ready
live_with-ended-requires-clause-ready g c =
    open_made g.T.Twin.both g.T.Twin.leaves g.S.Start.store c.args.store g.S.Origin.both c.args.twin c.requires.copies c.requires.begins (identity_with c.args.limits c.args.fingerprint.now) c.requires.identity c.new-keeper.result c.new-keeper.ensures c.requires.is_open

pub live_with-ended-requires-clause-kept : goal.live_with-ended-requires-clause-kept
live_with-ended-requires-clause-kept g c =
    kept_made g.T.Twin.both g.T.Twin.leaves g.S.Start.store c.args.store g.S.Origin.both c.args.twin c.requires.copies c.requires.begins (identity_with c.args.limits c.args.fingerprint.now) c.requires.identity c.new-keeper.result c.new-keeper.ensures c.requires.is_open c.requires.twice c.requires.kept

pub live_with-ended-requires-clause-running : goal.live_with-ended-requires-clause-running
live_with-ended-requires-clause-running g c =
    running_made g.T.Twin.both g.T.Twin.leaves g.S.Start.store c.args.store g.S.Origin.both c.args.twin c.requires.copies c.requires.begins (identity_with c.args.limits c.args.fingerprint.now) c.requires.identity c.new-keeper.result c.new-keeper.ensures c.args.fingerprint.now c.args.core c.requires.running

pub returns-clause-frame : goal.returns-clause-frame
returns-clause-frame g c =
    frame_made g.T.Twin.both g.T.Twin.leaves g.S.Start.store c.args.store g.S.Origin.both c.args.twin c.requires.copies c.requires.begins (identity_with c.args.limits c.args.fingerprint.now) c.requires.identity c.new-keeper.result c.new-keeper.ensures c.live_with-ended.new.keeper c.into_twin.result c.into_twin.ensures.twin c.into_twin.ensures.since c.live_with-ended.ensures.talked.within.frame

pub returns-clause-lived : goal.returns-clause-lived
returns-clause-lived g c =
    λ told. lived_given g.T.Twin.both g.T.Twin.leaves g.S.Start.store c.args.store g.S.Origin.both c.args.twin c.requires.copies c.requires.begins (identity_with c.args.limits c.args.fingerprint.now) c.requires.identity c.new-keeper.result c.new-keeper.ensures c.live_with-ended.new.keeper c.into_twin.result c.into_twin.ensures.twin c.into_twin.ensures.since c.args.fingerprint.now c.args.core c.requires.running (g.I.Typing.typing c.args.typing.now) c.live_with-ended.result c.live_with-ended.ensures.talked told
    c.lost-lost.result c.lost-lost.ensures (g.met.T.Twin.holds_now c.live_with-ended.new.keeper.twin) _ c.and.ensures

pub returns-clause-input : goal.returns-clause-input
returns-clause-input g c =
    λ is. c.live_with-ended.ensures.input (failed_both c.live_with-ended.result c.lost-lost.result _ _ c.and.ensures is)

pub returns-clause-heard : goal.returns-clause-heard
returns-clause-heard g c =
    λ none. c.live_with-ended.ensures.heard (not_failed_both c.live_with-ended.result c.lost-lost.result _ _ c.and.ensures none)

pub returns-clause-failed : goal.returns-clause-failed
returns-clause-failed g c =
    λ is. fails_made g.T.Twin.both g.T.Twin.leaves g.S.Start.store c.args.store g.S.Origin.both c.args.twin c.requires.copies c.requires.begins (identity_with c.args.limits c.args.fingerprint.now) c.requires.identity c.new-keeper.result c.new-keeper.ensures c.live_with-ended.new.keeper c.into_twin.result c.into_twin.ensures.twin (c.live_with-ended.ensures.failed (failed_both c.live_with-ended.result c.lost-lost.result _ _ c.and.ensures is))

pub returns-clause-refused : goal.returns-clause-refused
returns-clause-refused g c =
    λ is told. c.live_with-ended.ensures.refused (failed_both c.live_with-ended.result c.lost-lost.result _ _ c.and.ensures is) (told_made g.T.Twin.both g.T.Twin.leaves g.S.Start.store c.args.store g.S.Origin.both c.args.twin c.requires.copies c.requires.begins (identity_with c.args.limits c.args.fingerprint.now) c.requires.identity c.new-keeper.result c.new-keeper.ensures told)

pub returns-clause-other : goal.returns-clause-other
returns-clause-other g c =
    λ stored is told. c.live_with-ended.ensures.other stored (failed_both c.live_with-ended.result c.lost-lost.result _ _ c.and.ensures is) (told_made g.T.Twin.both g.T.Twin.leaves g.S.Start.store c.args.store g.S.Origin.both c.args.twin c.requires.copies c.requires.begins (identity_with c.args.limits c.args.fingerprint.now) c.requires.identity c.new-keeper.result c.new-keeper.ensures told)

pub returns-clause-fine : goal.returns-clause-fine
returns-clause-fine g c =
    λ none. fine_made g.T.Twin.both g.T.Twin.leaves g.S.Start.store c.args.store g.S.Origin.both c.args.twin c.requires.copies c.requires.begins (identity_with c.args.limits c.args.fingerprint.now) c.requires.identity c.new-keeper.result c.new-keeper.ensures c.requires.is_open c.live_with-ended.new.keeper c.into_twin.result c.into_twin.ensures.twin (c.live_with-ended.ensures.fine (not_failed_both c.live_with-ended.result c.lost-lost.result _ _ c.and.ensures none))
