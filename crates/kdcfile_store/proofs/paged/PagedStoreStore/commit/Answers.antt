use Rattle.std.proofs.Common.{◌∙◌}
use Rattle.kdcfile_layout.specs.Layout.{StandsFor}
use Rattle.kd_records.specs.Contents.{patched}
use Rattle.kdcfile_store.proofs.Committing.{after_quiet}
use Rattle.kdcfile_store.proofs.paged.PagedStoreStore.commit.Goals as goal

pub returns-clause-any_moment : goal.returns-clause-any_moment
returns-clause-any_moment g c = λ told.
    let s = c.args.self.now in
    let kept = c.requires.kept told in
    let quiet = c.size.ensures.content told in
    after_quiet (StandsFor s.identity) s.content (patched s.content c.args.patch.now) (g.D.Device.state c.args.device.now) (g.D.Device.state c.size.new.self) (g.D.Device.state c.commit_in.new.device) (g.D.Device.leaves c.args.device.now) (g.D.Device.leaves c.size.new.self) (g.D.Device.leaves c.commit_in.new.device)
    (s.second, s.layout, kept.bytes) kept.at_rest quiet (c.commit_in.ensures.any_moment (c.size.ensures.frame.told ∙ told))
