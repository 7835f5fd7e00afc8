use Rattle.kd_base.specs.ToolsLaws.{error_same}
use Rattle.std.proofs.Common.{◌∙◌}
use Rattle.kd_records.specs.Contents.{patched}
use Rattle.device_acts.specs.ErrorsLaws.{other_error}
use Rattle.kdcfile_store.specs.Paged.{identity_with}
use Rattle.twin_run.proofs.KeepingValues.{commit_then, copies_were, failed_then, frame_then, keeper_was, kept_some, kept_was, no_sequence, pages_were, since_none, since_some, went_then}
use Rattle.twin_run.proofs.keeper.TwinKeeperKeeper.commit.Goals as goal

pub commit-requires-clause-kept : goal.commit-requires-clause-kept
commit-requires-clause-kept g c =
    let was = keeper_was g.T.Twin.both g.S.Start.store g.S.Origin.both c.self.view_is c.self.invariant c.give_up-store.ensures.taken c.requires.ready in
    kept_was g.T.Twin.leaves was c.requires.kept

pub commit-requires-clause-is_open : goal.commit-requires-clause-is_open
commit-requires-clause-is_open g c =
    let was = keeper_was g.T.Twin.both g.S.Start.store g.S.Origin.both c.self.view_is c.self.invariant c.give_up-store.ensures.taken c.requires.ready in
    was.is_open

pub commit-requires-clause-plain : goal.commit-requires-clause-plain
commit-requires-clause-plain g c = no_sequence c.args.patch.now c.requires.changes

pub commit-requires-clause-charge_before : goal.commit-requires-clause-charge_before
commit-requires-clause-charge_before g c =
    let was = keeper_was g.T.Twin.both g.S.Start.store g.S.Origin.both c.self.view_is c.self.invariant c.give_up-store.ensures.taken c.requires.ready in
    pages_were g.T.Twin.leaves was (λ x. x) c.requires.charge_before

pub commit-requires-clause-charge_after : goal.commit-requires-clause-charge_after
commit-requires-clause-charge_after g c =
    let was = keeper_was g.T.Twin.both g.S.Start.store g.S.Origin.both c.self.view_is c.self.invariant c.give_up-store.ensures.taken c.requires.ready in
    pages_were g.T.Twin.leaves was (λ x. patched x c.args.patch.now) c.requires.charge_after

pub invariant_of-self : goal.invariant_of-self
invariant_of-self g c =
    let was = keeper_was g.T.Twin.both g.S.Start.store g.S.Origin.both c.self.view_is c.self.invariant c.give_up-store.ensures.taken c.requires.ready in
    since_none g.T.Twin.leaves was c.commit.ensures.frame (identity_with c.self.inside.limits c.self.inside.fingerprint) c.self.inside.store _ c.give_up-store.ensures.left

pub returns-in_err-commit-clause-any_moment : goal.returns-in_err-commit-clause-any_moment
returns-in_err-commit-clause-any_moment g c =
    let was = keeper_was g.T.Twin.both g.S.Start.store g.S.Origin.both c.self.view_is c.self.invariant c.give_up-store.ensures.taken c.requires.ready in
    commit_then g.T.Twin.leaves was c.commit.ensures.frame (g.T.Twin.leaves c.commit.new.twin) c.args.patch.now c.commit.ensures.any_moment

pub returns-in_err-commit-clause-failed : goal.returns-in_err-commit-clause-failed
returns-in_err-commit-clause-failed g c = λ is.
    let was = keeper_was g.T.Twin.both g.S.Start.store g.S.Origin.both c.self.view_is c.self.invariant c.give_up-store.ensures.taken c.requires.ready in
    failed_then g.T.Twin.leaves was c.commit.ensures.frame (c.in_err-commit.ensures.failed (error_same _ _ c.from_residual.result c.in_err-commit.field-0.0 _ c.from_residual.ensures.1 is))

pub returns-in_err-commit-clause-frame : goal.returns-in_err-commit-clause-frame
returns-in_err-commit-clause-frame g c =
    let was = keeper_was g.T.Twin.both g.S.Start.store g.S.Origin.both c.self.view_is c.self.invariant c.give_up-store.ensures.taken c.requires.ready in
    frame_then g.T.Twin.leaves was c.commit.ensures.frame

pub invariant_of-self-2 : goal.invariant_of-self-2
invariant_of-self-2 g c =
    let was = keeper_was g.T.Twin.both g.S.Start.store g.S.Origin.both c.self.view_is c.self.invariant c.give_up-store.ensures.taken c.requires.ready in
    let done = c.in_ok-commit.ensures in
    since_some g.T.Twin.leaves was c.commit.ensures.frame c.copies_are_alike.ensures (identity_with c.self.inside.limits c.self.inside.fingerprint) done.is_open (done.identity ∙ (copies_were g.T.Twin.leaves was).identity) c.commit.ensures.mended c.commit.ensures.lost done.stays c.commit.ensures.no_other done.fine

pub returns-clause-kept : goal.returns-clause-kept
returns-clause-kept g c =
    let was = keeper_was g.T.Twin.both g.S.Start.store g.S.Origin.both c.self.view_is c.self.invariant c.give_up-store.ensures.taken c.requires.ready in
    let done = c.in_ok-commit.ensures in
    kept_some g.T.Twin.leaves was c.commit.ensures.frame c.copies_are_alike.ensures (identity_with c.self.inside.limits c.self.inside.fingerprint) done.is_open (done.identity ∙ (copies_were g.T.Twin.leaves was).identity) c.commit.ensures.mended c.commit.ensures.lost done.stays c.commit.ensures.no_other done.fine (g.T.Twin.leaves c.commit.new.twin) c.copies_are_alike-2.ensures done.kept

pub returns-clause-any_moment : goal.returns-clause-any_moment
returns-clause-any_moment g c =
    let was = keeper_was g.T.Twin.both g.S.Start.store g.S.Origin.both c.self.view_is c.self.invariant c.give_up-store.ensures.taken c.requires.ready in
    commit_then g.T.Twin.leaves was c.commit.ensures.frame (g.T.Twin.leaves c.commit.new.twin) c.args.patch.now c.commit.ensures.any_moment

pub returns-in_err-commit-clause-fine : goal.returns-in_err-commit-clause-fine
returns-in_err-commit-clause-fine g c = λ none.
    let was = keeper_was g.T.Twin.both g.S.Start.store g.S.Origin.both c.self.view_is c.self.invariant c.give_up-store.ensures.taken c.requires.ready in
    went_then g.T.Twin.leaves was c.commit.ensures.frame (c.in_err-commit.ensures.went (other_error _ _ c.from_residual.result c.in_err-commit.field-0.0 _ c.from_residual.ensures.1 none))

pub returns-clause-fine : goal.returns-clause-fine
returns-clause-fine g c = λ none.
    let was = keeper_was g.T.Twin.both g.S.Start.store g.S.Origin.both c.self.view_is c.self.invariant c.give_up-store.ensures.taken c.requires.ready in
    went_then g.T.Twin.leaves was c.commit.ensures.frame (c.in_ok-commit.ensures.went (λ is. absurd cc))

pub returns-clause-frame : goal.returns-clause-frame
returns-clause-frame g c =
    let was = keeper_was g.T.Twin.both g.S.Start.store g.S.Origin.both c.self.view_is c.self.invariant c.give_up-store.ensures.taken c.requires.ready in
    frame_then g.T.Twin.leaves was c.commit.ensures.frame
