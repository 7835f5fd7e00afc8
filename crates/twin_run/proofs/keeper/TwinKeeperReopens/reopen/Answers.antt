use Rattle.kd_base.specs.ToolsLaws.{error_same}
use Rattle.kdcfile_store.specs.Paged.{identity_with}
use Rattle.device_acts.specs.ErrorsLaws.{other_error}
use Rattle.twin_run.proofs.KeepingValues.{failed_then, frame_then, keeper_was, keeps_twice, kept_some, kept_was, made_twice, reopen_then, same_tables, since_none, since_some, told_was, went_then}
use Rattle.twin_run.proofs.keeper.TwinKeeperReopens.reopen.Goals as goal

pub reopen-requires-clause-kept : goal.reopen-requires-clause-kept
reopen-requires-clause-kept g c =
    let was = keeper_was g.T.Twin.both g.S.Start.store g.S.Origin.both c.self.view_is c.self.invariant c.give_up-store.ensures.taken c.requires.ready in
    kept_was g.T.Twin.leaves was c.requires.kept

pub reopen-requires-clause-is_open : goal.reopen-requires-clause-is_open
reopen-requires-clause-is_open g c =
    let was = keeper_was g.T.Twin.both g.S.Start.store g.S.Origin.both c.self.view_is c.self.invariant c.give_up-store.ensures.taken c.requires.ready in
    was.is_open

pub invariant_of-self : goal.invariant_of-self
invariant_of-self g c =
    let was = keeper_was g.T.Twin.both g.S.Start.store g.S.Origin.both c.self.view_is c.self.invariant c.give_up-store.ensures.taken c.requires.ready in
    since_none g.T.Twin.leaves was c.reopen.ensures.frame (identity_with c.self.inside.limits c.self.inside.fingerprint) c.self.inside.store _ c.give_up-store.ensures.left

pub returns-in_err-store-clause-refused : goal.returns-in_err-store-clause-refused
returns-in_err-store-clause-refused g c = λ is told u keeps.
    let was = keeper_was g.T.Twin.both g.S.Start.store g.S.Origin.both c.self.view_is c.self.invariant c.give_up-store.ensures.taken c.requires.ready in
    c.in_err-store.ensures.refused u (keeps_twice g.T.Twin.leaves was keeps) keeps.suits (error_same _ _ c.from_residual.result c.in_err-store.field-0.0 _ c.from_residual.ensures.1 is) (told_was g.T.Twin.leaves was told)

pub returns-in_err-store-clause-frame : goal.returns-in_err-store-clause-frame
returns-in_err-store-clause-frame g c =
    let was = keeper_was g.T.Twin.both g.S.Start.store g.S.Origin.both c.self.view_is c.self.invariant c.give_up-store.ensures.taken c.requires.ready in
    frame_then g.T.Twin.leaves was c.reopen.ensures.frame

pub returns-in_err-store-clause-other : goal.returns-in_err-store-clause-other
returns-in_err-store-clause-other g c = λ stored is told u keeps.
    let was = keeper_was g.T.Twin.both g.S.Start.store g.S.Origin.both c.self.view_is c.self.invariant c.give_up-store.ensures.taken c.requires.ready in
    c.in_err-store.ensures.other u stored (keeps_twice g.T.Twin.leaves was keeps) (error_same _ _ c.from_residual.result c.in_err-store.field-0.0 _ c.from_residual.ensures.1 is) (told_was g.T.Twin.leaves was told)

pub returns-in_err-store-clause-still : goal.returns-in_err-store-clause-still
returns-in_err-store-clause-still g c = λ told u keeps.
    let was = keeper_was g.T.Twin.both g.S.Start.store g.S.Origin.both c.self.view_is c.self.invariant c.give_up-store.ensures.taken c.requires.ready in
    reopen_then g.T.Twin.leaves was c.reopen.ensures.frame (g.T.Twin.leaves c.reopen.new.twin) c.copies_are_alike.ensures (kept_was g.T.Twin.leaves was c.requires.kept) c.reopen.ensures.still told

pub returns-in_err-store-clause-failed : goal.returns-in_err-store-clause-failed
returns-in_err-store-clause-failed g c = λ is.
    let was = keeper_was g.T.Twin.both g.S.Start.store g.S.Origin.both c.self.view_is c.self.invariant c.give_up-store.ensures.taken c.requires.ready in
    failed_then g.T.Twin.leaves was c.reopen.ensures.frame (c.in_err-store.ensures.failed (error_same _ _ c.from_residual.result c.in_err-store.field-0.0 _ c.from_residual.ensures.1 is))

pub invariant_of-self-2 : goal.invariant_of-self-2
invariant_of-self-2 g c =
    let was = keeper_was g.T.Twin.both g.S.Start.store g.S.Origin.both c.self.view_is c.self.invariant c.give_up-store.ensures.taken c.requires.ready in
    let done = c.in_ok-store.ensures in
    let made = made_twice c.args.generation.now c.args.fingerprint.now _ c.limits_of-self-inside.result c.limits_of-self-inside.ensures.limits done.keeps.identity_is in
    since_some g.T.Twin.leaves was c.reopen.ensures.frame c.copies_are_alike.ensures (identity_with c.limits_of-self-inside.result c.args.fingerprint.now) done.is_open made done.mended done.lost done.stays done.no_other done.fine

pub returns-clause-same : goal.returns-clause-same
returns-clause-same g c = λ told u keeps.
    let was = keeper_was g.T.Twin.both g.S.Start.store g.S.Origin.both c.self.view_is c.self.invariant c.give_up-store.ensures.taken c.requires.ready in
    same_tables g.T.Twin.leaves was keeps c.in_ok-store.store c.in_ok-store.tables c.in_ok-store.ensures.keeps (c.in_ok-store.ensures.same (told_was g.T.Twin.leaves was told)).0

pub returns-clause-kept : goal.returns-clause-kept
returns-clause-kept g c =
    let was = keeper_was g.T.Twin.both g.S.Start.store g.S.Origin.both c.self.view_is c.self.invariant c.give_up-store.ensures.taken c.requires.ready in
    let done = c.in_ok-store.ensures in
    let made = made_twice c.args.generation.now c.args.fingerprint.now _ c.limits_of-self-inside.result c.limits_of-self-inside.ensures.limits done.keeps.identity_is in
    kept_some g.T.Twin.leaves was c.reopen.ensures.frame c.copies_are_alike.ensures (identity_with c.limits_of-self-inside.result c.args.fingerprint.now) done.is_open made done.mended done.lost done.stays done.no_other done.fine (g.T.Twin.leaves c.reopen.new.twin) c.copies_are_alike-2.ensures done.kept

pub returns-clause-still : goal.returns-clause-still
returns-clause-still g c = λ told u keeps.
    let was = keeper_was g.T.Twin.both g.S.Start.store g.S.Origin.both c.self.view_is c.self.invariant c.give_up-store.ensures.taken c.requires.ready in
    reopen_then g.T.Twin.leaves was c.reopen.ensures.frame (g.T.Twin.leaves c.reopen.new.twin) c.copies_are_alike.ensures (kept_was g.T.Twin.leaves was c.requires.kept) c.reopen.ensures.still told

pub returns-clause-frame : goal.returns-clause-frame
returns-clause-frame g c =
    let was = keeper_was g.T.Twin.both g.S.Start.store g.S.Origin.both c.self.view_is c.self.invariant c.give_up-store.ensures.taken c.requires.ready in
    frame_then g.T.Twin.leaves was c.reopen.ensures.frame

pub returns-in_err-store-clause-fine : goal.returns-in_err-store-clause-fine
returns-in_err-store-clause-fine g c = λ none.
    let was = keeper_was g.T.Twin.both g.S.Start.store g.S.Origin.both c.self.view_is c.self.invariant c.give_up-store.ensures.taken c.requires.ready in
    went_then g.T.Twin.leaves was c.reopen.ensures.frame (c.in_err-store.ensures.went (other_error _ _ c.from_residual.result c.in_err-store.field-0.0 _ c.from_residual.ensures.1 none))

pub returns-clause-fine : goal.returns-clause-fine
returns-clause-fine g c = λ none.
    let was = keeper_was g.T.Twin.both g.S.Start.store g.S.Origin.both c.self.view_is c.self.invariant c.give_up-store.ensures.taken c.requires.ready in
    went_then g.T.Twin.leaves was c.reopen.ensures.frame (c.in_ok-store.ensures.went (λ is. absurd cc))
