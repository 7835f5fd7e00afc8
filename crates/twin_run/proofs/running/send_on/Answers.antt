use Rattle.kdcfile_store.specs.Paged.{identity_with}
use Rattle.device_acts.specs.LinesLaws.{lines_can}
use Rattle.std.proofs.lemmas.Result.{on_ok_weaker}
use Rattle.twin_run.proofs.Handing.{both_ok, done_both, failed_both, not_failed_both}
use Rattle.twin_run.proofs.Keepers.{did_lines, fails_made, fine_made, frame_made, kept_made, open_made, part_lines, since_made}
use Rattle.twin_run.proofs.running.send_on.Goals as goal

pub new-keeper-requires-clause-copies : goal.new-keeper-requires-clause-copies
new-keeper-requires-clause-copies g c =
    since_made g.T.Twin.both g.T.Twin.leaves g.S.Start.store c.args.store g.S.Origin.both c.args.twin c.requires.copies c.requires.begins (identity_with c.args.limits c.args.fingerprint.now) c.requires.identity c.requires.is_open

pub keep_acts-sent-requires-clause-ready : goal.keep_acts-sent-requires-clause-ready
keep_acts-sent-requires-clause-ready g c = open_made g.T.Twin.both g.T.Twin.leaves g.S.Start.store c.args.store g.S.Origin.both c.args.twin c.requires.copies c.requires.begins (identity_with c.args.limits c.args.fingerprint.now) c.requires.identity c.new-keeper.result c.new-keeper.ensures c.requires.is_open

pub keep_acts-sent-requires-clause-kept : goal.keep_acts-sent-requires-clause-kept
keep_acts-sent-requires-clause-kept g c =
    kept_made g.T.Twin.both g.T.Twin.leaves g.S.Start.store c.args.store g.S.Origin.both c.args.twin c.requires.copies c.requires.begins (identity_with c.args.limits c.args.fingerprint.now) c.requires.identity c.new-keeper.result c.new-keeper.ensures c.requires.is_open c.requires.twice c.requires.kept

pub keep_acts-sent-requires-clause-can : goal.keep_acts-sent-requires-clause-can
keep_acts-sent-requires-clause-can g c =
    lines_can _ _ c.args.acts.now c.requires.lines

pub returns-clause-frame : goal.returns-clause-frame
returns-clause-frame g c =
    frame_made g.T.Twin.both g.T.Twin.leaves g.S.Start.store c.args.store g.S.Origin.both c.args.twin c.requires.copies c.requires.begins (identity_with c.args.limits c.args.fingerprint.now) c.requires.identity c.new-keeper.result c.new-keeper.ensures c.keep_acts-sent.new.keeper c.into_twin.result c.into_twin.ensures.twin c.into_twin.ensures.since c.keep_acts-sent.ensures.any.frame

pub returns-clause-any : goal.returns-clause-any
returns-clause-any g c =
    λ t keeps. part_lines g.T.Twin.both g.T.Twin.leaves g.S.Start.store c.args.store g.S.Origin.both c.args.twin c.requires.copies c.requires.begins (identity_with c.args.limits c.args.fingerprint.now) c.requires.identity c.new-keeper.result c.new-keeper.ensures c.keep_acts-sent.new.keeper c.into_twin.result c.into_twin.ensures.twin c.into_twin.ensures.since t c.args.acts.now keeps c.requires.lines c.keep_acts-sent.ensures.any

pub returns-clause-done : goal.returns-clause-done
returns-clause-done g c =
    done_both _ c.keep_acts-sent.result c.lost-lost.result _ c.and.ensures
    (on_ok_weaker c.keep_acts-sent.result
    (λ did told t keeps. did_lines g.T.Twin.both g.T.Twin.leaves g.S.Start.store c.args.store g.S.Origin.both c.args.twin c.requires.copies c.requires.begins (identity_with c.args.limits c.args.fingerprint.now) c.requires.identity c.new-keeper.result c.new-keeper.ensures c.keep_acts-sent.new.keeper c.into_twin.result c.into_twin.ensures.twin c.into_twin.ensures.since t c.args.acts.now keeps c.requires.lines c.lost-lost.result c.lost-lost.ensures c.keep_acts-sent.ensures.identity did.0 did.1 (g.met.T.Twin.holds_now c.keep_acts-sent.new.keeper.twin) told)
    (both_ok _ _ c.keep_acts-sent.result c.keep_acts-sent.ensures.content c.keep_acts-sent.ensures.done))

pub returns-clause-failed : goal.returns-clause-failed
returns-clause-failed g c = λ is.
    fails_made g.T.Twin.both g.T.Twin.leaves g.S.Start.store c.args.store g.S.Origin.both c.args.twin c.requires.copies c.requires.begins (identity_with c.args.limits c.args.fingerprint.now) c.requires.identity c.new-keeper.result c.new-keeper.ensures c.keep_acts-sent.new.keeper c.into_twin.result c.into_twin.ensures.twin (c.keep_acts-sent.ensures.failed (failed_both c.keep_acts-sent.result c.lost-lost.result _ _ c.and.ensures is))

pub returns-clause-fine : goal.returns-clause-fine
returns-clause-fine g c = λ none.
    fine_made g.T.Twin.both g.T.Twin.leaves g.S.Start.store c.args.store g.S.Origin.both c.args.twin c.requires.copies c.requires.begins (identity_with c.args.limits c.args.fingerprint.now) c.requires.identity c.new-keeper.result c.new-keeper.ensures c.requires.is_open c.keep_acts-sent.new.keeper c.into_twin.result c.into_twin.ensures.twin (c.keep_acts-sent.ensures.fine (not_failed_both c.keep_acts-sent.result c.lost-lost.result _ _ c.and.ensures none))
