use Rattle.std.proofs.Common.{sym, subst}
use Rattle.kd_device.specs.Device.{LeavesOnly}
use Rattle.kd_records.specs.Contents.{patched}
use Rattle.kdcfile_layout.specs.Layout.{StandsFor}
use Rattle.kdcfile_layout.specs.Opened.{layout_in}
use Rattle.kdcfile_store.specs.declared.filed.Filed.{Filed}
use Rattle.kdcfile_store.specs.Kept.{OldOrNew}
use Rattle.kdcfile_store.specs.Next.{IsNext}
use Rattle.kdcfile_store.specs.Paged.{Paged, HasFile}
use Rattle.kdcfile_store.proofs.Committing.{are_pages, apart, would_be, leaves_patched, new_stands}
use Rattle.kdcfile_store.proofs.paged.PagedStore.commit_in.Goals as goal

pub commit_image-requires-clause-pages : goal.commit_image-requires-clause-pages
commit_image-requires-clause-pages g c =
    let next = subst (λ (f : Filed). IsNext c.self.inside.image f.content (layout_in c.self.inside.image.root f.table) c.self.inside.pool c.args.patch.now c.args.long c.in-Ok.next) c.replace-filed.ensures.value c.in-Ok.ensures.ok in
    are_pages next

pub commit_image-requires-clause-apart : goal.commit_image-requires-clause-apart
commit_image-requires-clause-apart g c = λ told.
    let h = (g.D.Device.state c.args.device.now).holds in
    let stands = subst (λ (s : Paged). HasFile s h) (sym c.self.view_is) (c.requires.kept told).bytes in
    let next = subst (λ (f : Filed). IsNext c.self.inside.image f.content (layout_in c.self.inside.image.root f.table) c.self.inside.pool c.args.patch.now c.args.long c.in-Ok.next) c.replace-filed.ensures.value c.in-Ok.ensures.ok in
    (c.self.inside.filed.content, layout_in c.self.inside.image.root c.self.inside.filed.table, apart next h stands)

pub commit_image-requires-clause-would_be : goal.commit_image-requires-clause-would_be
commit_image-requires-clause-would_be g c = λ told.
    let h = (g.D.Device.state c.args.device.now).holds in
    let n = c.in-Ok.next in
    let stands = subst (λ (s : Paged). HasFile s h) (sym c.self.view_is) (c.requires.kept told).bytes in
    let next = subst (λ (f : Filed). IsNext c.self.inside.image f.content (layout_in c.self.inside.image.root f.table) c.self.inside.pool c.args.patch.now c.args.long c.in-Ok.next) c.replace-filed.ensures.value c.in-Ok.ensures.ok in
    (n.filing.content.content, layout_in n.root n.filing.table.slots, would_be next h (c.requires.long told) stands)

pub commit_image-requires-clause-at_rest : goal.commit_image-requires-clause-at_rest
commit_image-requires-clause-at_rest g c = λ told. (c.requires.kept told).at_rest

pub returns-in-Ok-commit_image-clause-kept : goal.returns-in-Ok-commit_image-clause-kept
returns-in-Ok-commit_image-clause-kept g c = λ told.
    let h = (g.D.Device.state c.args.device.now).holds in
    let stands = subst (λ (s : Paged). HasFile s h) (sym c.self.view_is) (c.requires.kept told).bytes in
    let next = subst (λ (f : Filed). IsNext c.self.inside.image f.content (layout_in c.self.inside.image.root f.table) c.self.inside.pool c.args.patch.now c.args.long c.in-Ok.next) c.replace-filed.ensures.value c.in-Ok.ensures.ok in
    record {
      bytes = rw (c.done.ensures.table, c.done.ensures.content) (new_stands next c.commit_image.new.image h (g.D.Device.state c.commit_image.new.device).holds c.in-Ok-commit_image.ensures.image (c.requires.long told) stands (c.in-Ok-commit_image.ensures.stands told));
      at_rest = c.in-Ok-commit_image.ensures.at_rest told;
    }

pub returns-in-Ok-commit_image-clause-any_moment : goal.returns-in-Ok-commit_image-clause-any_moment
returns-in-Ok-commit_image-clause-any_moment g c = λ told.
    let a = g.D.Device.state c.args.device.now in
    let d = g.D.Device.state c.commit_image.new.device in
    let la = g.D.Device.leaves c.args.device.now in
    let ld = g.D.Device.leaves c.commit_image.new.device in
    let stands = subst (λ (s : Paged). HasFile s a.holds) (sym c.self.view_is) (c.requires.kept told).bytes in
    let next = subst (λ (f : Filed). IsNext c.self.inside.image f.content (layout_in c.self.inside.image.root f.table) c.self.inside.pool c.args.patch.now c.args.long c.in-Ok.next) c.replace-filed.ensures.value c.in-Ok.ensures.ok in
    subst (λ (s : Paged). LeavesOnly a d la ld (OldOrNew (StandsFor s.identity) s.content (patched s.content c.args.patch.now) a.sent)) c.self.view_is
    (leaves_patched next a d la ld (c.requires.long told) stands (c.commit_image.ensures.any_moment told))

pub returns-in-Err-commit_image-clause-any_moment : goal.returns-in-Err-commit_image-clause-any_moment
returns-in-Err-commit_image-clause-any_moment g c = λ told.
    let a = g.D.Device.state c.args.device.now in
    let d = g.D.Device.state c.commit_image.new.device in
    let la = g.D.Device.leaves c.args.device.now in
    let ld = g.D.Device.leaves c.commit_image.new.device in
    let stands = subst (λ (s : Paged). HasFile s a.holds) (sym c.self.view_is) (c.requires.kept told).bytes in
    let next = subst (λ (f : Filed). IsNext c.self.inside.image f.content (layout_in c.self.inside.image.root f.table) c.self.inside.pool c.args.patch.now c.args.long c.in-Ok.next) c.replace-filed.ensures.value c.in-Ok.ensures.ok in
    subst (λ (s : Paged). LeavesOnly a d la ld (OldOrNew (StandsFor s.identity) s.content (patched s.content c.args.patch.now) a.sent)) c.self.view_is
    (leaves_patched next a d la ld (c.requires.long told) stands (c.commit_image.ensures.any_moment told))
