use Rattle.std.proofs.Common.{◌∙◌, ap, sym, subst}
use Rattle.kd_device.specs.Device.{LeavesOnly}
use Rattle.kdcfile_layout.specs.Commit.{Either}
use Rattle.kdcfile_layout.specs.Opened.{layout_in}
use Rattle.kdcfile_store.specs.Paged.{Paged, HasFile, identity_with}
use Rattle.kdcfile_store.proofs.WholeCommitting.{are_pages, apart, would_be, leaves_carried, now_stands}
use Rattle.kdcfile_store.proofs.paged.PagedStore.carry.Goals as goal

pub commit_image-requires-clause-pages : goal.commit_image-requires-clause-pages
commit_image-requires-clause-pages g c =
    are_pages c.in_ok-whole.ensures c.self.inside.image (c.requires.blksize ∙ ap (λ (s : Paged). s.identity.blksize) (sym c.self.view_is))

pub commit_image-requires-clause-apart : goal.commit_image-requires-clause-apart
commit_image-requires-clause-apart g c = λ told.
    let h = (g.D.Device.state c.args.device.now).holds in
    let stands = subst (λ (s : Paged). HasFile s h) (sym c.self.view_is) (c.requires.kept told).bytes in
    let x = c.self.inside.filed.content in
    let l = layout_in c.self.inside.image.root c.self.inside.filed.table in
    (x, l, apart c.in_ok-whole.ensures c.self.inside.image (c.requires.blksize ∙ ap (λ (s : Paged). s.identity.blksize) (sym c.self.view_is)) x l c.self.invariant.named h stands)

pub commit_image-requires-clause-would_be : goal.commit_image-requires-clause-would_be
commit_image-requires-clause-would_be g c = λ told.
    let h = (g.D.Device.state c.args.device.now).holds in
    let stands = subst (λ (s : Paged). HasFile s h) (sym c.self.view_is) (c.requires.kept told).bytes in
    let w = c.in_ok-whole.whole in (
      c.args.content,
      layout_in w.root w.filed.table,
      would_be c.in_ok-whole.ensures c.self.inside.image (c.requires.blksize ∙ ap (λ (s : Paged). s.identity.blksize) (sym c.self.view_is)) c.self.inside.filed.content
          (layout_in c.self.inside.image.root c.self.inside.filed.table) c.self.invariant.named h stands,
    )

pub commit_image-requires-clause-at_rest : goal.commit_image-requires-clause-at_rest
commit_image-requires-clause-at_rest g c = λ told. (c.requires.kept told).at_rest

pub returns-clause-kept : goal.returns-clause-kept
returns-clause-kept g c = λ told.
    let h = (g.D.Device.state c.args.device.now).holds in
    let stands = subst (λ (s : Paged). HasFile s h) (sym c.self.view_is) (c.requires.kept told).bytes in
    record {
      bytes =
          now_stands c.in_ok-whole.ensures c.self.inside.image (c.requires.blksize ∙ ap (λ (s : Paged). s.identity.blksize) (sym c.self.view_is)) c.self.inside.filed.content
          (layout_in c.self.inside.image.root c.self.inside.filed.table) c.self.invariant.named c.commit_image.new.image h (g.D.Device.state c.commit_image.new.device).holds c.in_ok-commit_image.ensures.image stands (c.in_ok-commit_image.ensures.stands told);
      at_rest = c.in_ok-commit_image.ensures.at_rest told;
    }

pub returns-in_err-commit_image-clause-any_moment : goal.returns-in_err-commit_image-clause-any_moment
returns-in_err-commit_image-clause-any_moment g c = λ told.
    let a = g.D.Device.state c.args.device.now in
    let d = g.D.Device.state c.commit_image.new.device in
    let la = g.D.Device.leaves c.args.device.now in
    let ld = g.D.Device.leaves c.commit_image.new.device in
    let stands = subst (λ (s : Paged). HasFile s a.holds) (sym c.self.view_is) (c.requires.kept told).bytes in
    subst (λ (s : Paged). LeavesOnly a d la ld (Either s.identity s.content (identity_with c.args.limits.now c.args.fingerprint.now) c.args.content a.sent)) c.self.view_is
    (leaves_carried c.in_ok-whole.ensures c.self.inside.image (c.requires.blksize ∙ ap (λ (s : Paged). s.identity.blksize) (sym c.self.view_is)) c.self.inside.filed.content
    (layout_in c.self.inside.image.root c.self.inside.filed.table) c.self.invariant.named a d la ld stands (c.commit_image.ensures.any_moment told))

pub returns-clause-any_moment : goal.returns-clause-any_moment
returns-clause-any_moment g c = λ told.
    let a = g.D.Device.state c.args.device.now in
    let d = g.D.Device.state c.commit_image.new.device in
    let la = g.D.Device.leaves c.args.device.now in
    let ld = g.D.Device.leaves c.commit_image.new.device in
    let stands = subst (λ (s : Paged). HasFile s a.holds) (sym c.self.view_is) (c.requires.kept told).bytes in
    subst (λ (s : Paged). LeavesOnly a d la ld (Either s.identity s.content (identity_with c.args.limits.now c.args.fingerprint.now) c.args.content a.sent)) c.self.view_is
    (leaves_carried c.in_ok-whole.ensures c.self.inside.image (c.requires.blksize ∙ ap (λ (s : Paged). s.identity.blksize) (sym c.self.view_is)) c.self.inside.filed.content
    (layout_in c.self.inside.image.root c.self.inside.filed.table) c.self.invariant.named a d la ld stands (c.commit_image.ensures.any_moment told))
