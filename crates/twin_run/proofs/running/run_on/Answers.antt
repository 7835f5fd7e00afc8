use Rattle.kdcfile_store.specs.Paged.{identity_with}
use Rattle.abstract_monitor.specs.Trace.{history}
use Rattle.std.proofs.lemmas.Result.{on_ok_weaker}
use Rattle.twin_run.proofs.Handing.{done_both, failed_both, not_failed_both}
use Rattle.twin_run.proofs.Keepers.{did_run, fails_made, fine_made, kept_made, open_made, part_run, running_made, since_made, told_made}
use Rattle.twin_run.proofs.running.run_on.Goals as goal

pub new-keeper-requires-clause-copies : goal.new-keeper-requires-clause-copies
new-keeper-requires-clause-copies g c =
    since_made g.T.Twin.both g.T.Twin.leaves g.S.Start.store c.args.store g.S.Origin.both c.args.twin c.requires.copies c.requires.begins (identity_with c.args.limits c.args.fingerprint.now) c.requires.identity c.requires.is_open

pub run_with-ran-requires-clause-ready : goal.run_with-ran-requires-clause-ready
run_with-ran-requires-clause-ready g c = open_made g.T.Twin.both g.T.Twin.leaves g.S.Start.store c.args.store g.S.Origin.both c.args.twin c.requires.copies c.requires.begins (identity_with c.args.limits c.args.fingerprint.now) c.requires.identity c.new-keeper.result c.new-keeper.ensures c.requires.is_open

pub run_with-ran-requires-clause-kept : goal.run_with-ran-requires-clause-kept
run_with-ran-requires-clause-kept g c =
    kept_made g.T.Twin.both g.T.Twin.leaves g.S.Start.store c.args.store g.S.Origin.both c.args.twin c.requires.copies c.requires.begins (identity_with c.args.limits c.args.fingerprint.now) c.requires.identity c.new-keeper.result c.new-keeper.ensures c.requires.is_open c.requires.twice c.requires.kept

pub run_with-ran-requires-clause-running : goal.run_with-ran-requires-clause-running
run_with-ran-requires-clause-running g c =
    running_made g.T.Twin.both g.T.Twin.leaves g.S.Start.store c.args.store g.S.Origin.both c.args.twin c.requires.copies c.requires.begins (identity_with c.args.limits c.args.fingerprint.now) c.requires.identity c.new-keeper.result c.new-keeper.ensures c.args.fingerprint.now c.args.core c.requires.running

pub returns-clause-any : goal.returns-clause-any
returns-clause-any g c =
    part_run g.T.Twin.both g.T.Twin.leaves g.S.Start.store c.args.store g.S.Origin.both c.args.twin c.requires.copies c.requires.begins (identity_with c.args.limits c.args.fingerprint.now) c.requires.identity c.new-keeper.result c.new-keeper.ensures c.run_with-ran.new.keeper c.into_twin.result c.into_twin.ensures.twin c.into_twin.ensures.since c.args.fingerprint.now c.args.core c.requires.running (history c.args.core.application c.args.core.state c.args.commands.now) c.run_with-ran.ensures.any

pub returns-clause-done : goal.returns-clause-done
returns-clause-done g c =
    done_both _ c.run_with-ran.result c.lost-lost.result _ c.and.ensures
    (on_ok_weaker c.run_with-ran.result
    (λ ran. did_run g.T.Twin.both g.T.Twin.leaves g.S.Start.store c.args.store g.S.Origin.both c.args.twin c.requires.copies c.requires.begins (identity_with c.args.limits c.args.fingerprint.now) c.requires.identity c.new-keeper.result c.new-keeper.ensures c.run_with-ran.new.keeper c.into_twin.result c.into_twin.ensures.twin c.into_twin.ensures.since c.args.fingerprint.now c.args.core c.requires.running (history c.args.core.application c.args.core.state c.args.commands.now) c.lost-lost.result c.lost-lost.ensures ran (g.met.T.Twin.holds_now c.run_with-ran.new.keeper.twin))
    c.run_with-ran.ensures.done)

pub returns-clause-failed : goal.returns-clause-failed
returns-clause-failed g c = λ is.
    fails_made g.T.Twin.both g.T.Twin.leaves g.S.Start.store c.args.store g.S.Origin.both c.args.twin c.requires.copies c.requires.begins (identity_with c.args.limits c.args.fingerprint.now) c.requires.identity c.new-keeper.result c.new-keeper.ensures c.run_with-ran.new.keeper c.into_twin.result c.into_twin.ensures.twin (c.run_with-ran.ensures.failed (failed_both c.run_with-ran.result c.lost-lost.result _ _ c.and.ensures is))

pub returns-clause-refused : goal.returns-clause-refused
returns-clause-refused g c = λ is told.
    c.run_with-ran.ensures.refused (failed_both c.run_with-ran.result c.lost-lost.result _ _ c.and.ensures is) (told_made g.T.Twin.both g.T.Twin.leaves g.S.Start.store c.args.store g.S.Origin.both c.args.twin c.requires.copies c.requires.begins (identity_with c.args.limits c.args.fingerprint.now) c.requires.identity c.new-keeper.result c.new-keeper.ensures told)

pub returns-clause-other : goal.returns-clause-other
returns-clause-other g c = λ stored is told.
    c.run_with-ran.ensures.other stored (failed_both c.run_with-ran.result c.lost-lost.result _ _ c.and.ensures is) (told_made g.T.Twin.both g.T.Twin.leaves g.S.Start.store c.args.store g.S.Origin.both c.args.twin c.requires.copies c.requires.begins (identity_with c.args.limits c.args.fingerprint.now) c.requires.identity c.new-keeper.result c.new-keeper.ensures told)

pub returns-clause-fine : goal.returns-clause-fine
returns-clause-fine g c = λ none.
    fine_made g.T.Twin.both g.T.Twin.leaves g.S.Start.store c.args.store g.S.Origin.both c.args.twin c.requires.copies c.requires.begins (identity_with c.args.limits c.args.fingerprint.now) c.requires.identity c.new-keeper.result c.new-keeper.ensures c.requires.is_open c.run_with-ran.new.keeper c.into_twin.result c.into_twin.ensures.twin (c.run_with-ran.ensures.fine (not_failed_both c.run_with-ran.result c.lost-lost.result _ _ c.and.ensures none))
