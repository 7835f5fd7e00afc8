use Rattle.kd_device.specs.declared.half.Half.TheVariants.{First}
use Rattle.kdcfile_store.specs.Paged.{identity_with}
use Rattle.twin_run.proofs.KeepingCalls.{frame_kept, said_fine, said_kept, said_moments, said_rise, said_since}
use Rattle.twin_run.proofs.keeper.TwinKeeperKeeper.say.Goals as goal

pub invariant_of-self : goal.invariant_of-self
invariant_of-self g c =
    said_since g.S.Start.store g.S.Origin.both (g.T.Twin.both c.self.inside.twin) (g.T.Twin.both c.say_both.new.twin) (identity_with c.self.inside.limits c.self.inside.fingerprint) c.say_both.ensures.disks c.self.inside.store (c.say_both.ensures.frame First).told c.self.invariant

pub returns-clause-kept : goal.returns-clause-kept
returns-clause-kept g c =
    rw (← c.self.view_is)
    (λ told kept. said_kept g.S.Start.store g.S.Origin.both (g.T.Twin.both c.self.inside.twin) (g.T.Twin.both c.say_both.new.twin) (identity_with c.self.inside.limits c.self.inside.fingerprint) c.say_both.ensures.disks (g.T.Twin.leaves c.self.inside.twin) (g.T.Twin.leaves c.say_both.new.twin) c.self.inside.store (c.say_both.ensures.stop told) kept)

pub returns-clause-any_moment : goal.returns-clause-any_moment
returns-clause-any_moment g c =
    rw (← c.self.view_is)
    (λ told. said_moments g.S.Start.store g.S.Origin.both (g.T.Twin.both c.self.inside.twin) (g.T.Twin.both c.say_both.new.twin) (identity_with c.self.inside.limits c.self.inside.fingerprint) c.say_both.ensures.disks (g.T.Twin.leaves c.self.inside.twin) (g.T.Twin.leaves c.say_both.new.twin) c.args.piece.now (c.say_both.ensures.any_moment told))

pub returns-clause-frame : goal.returns-clause-frame
returns-clause-frame g c =
    rw (← c.self.view_is)
    (let frame = c.say_both.ensures.frame First in frame_kept g.S.Start.store g.S.Origin.both (g.T.Twin.both c.self.inside.twin) (g.T.Twin.both c.say_both.new.twin) frame.told (said_rise g.S.Start.store g.S.Origin.both (g.T.Twin.both c.self.inside.twin) (g.T.Twin.both c.say_both.new.twin) (identity_with c.self.inside.limits c.self.inside.fingerprint) c.say_both.ensures.disks) frame.line_faults frame.moment)

pub returns-clause-fine : goal.returns-clause-fine
returns-clause-fine g c =
    rw (← c.self.view_is)
    (λ none. said_fine g.S.Start.store g.S.Origin.both (g.T.Twin.both c.self.inside.twin) (g.T.Twin.both c.say_both.new.twin) (identity_with c.self.inside.limits c.self.inside.fingerprint) c.say_both.ensures.disks (c.say_both.ensures.fine none))
