use Rattle.std.proofs.Common.{Bool, not, refl, ap, ◌∙◌}
use Rattle.kdcfile_layout.specs.Layout.{selector}
use Rattle.kdcfile_layout.proofs.kdcfile_images.Committing.{few, below, any_moment, put, put_most, stands, file_is}
use Rattle.kdcfile_layout.proofs.kdcfile_images.commit.commit_image.Goals as goal

pub commit_pages-requires-clause-few : goal.commit_pages-requires-clause-few
commit_pages-requires-clause-few g c = few c.args.image.now c.args.pages.items c.args.root c.as_slice.result.now (rw c.as_slice.ensures.value c.in_ok-writes.ensures) c.requires.fingerprint c.requires.most c.requires.directory c.file_end-end.ensures.opened c.requires.pages c.requires.few

pub commit_pages-requires-clause-inside : goal.commit_pages-requires-clause-inside
commit_pages-requires-clause-inside g c = below c.args.image.now c.args.pages.items c.args.root c.as_slice.result.now (rw c.as_slice.ensures.value c.in_ok-writes.ensures) c.requires.fingerprint c.requires.most c.requires.directory c.file_end-end.ensures.opened c.file_end-end.result c.file_end-end.ensures.value c.requires.pages

pub returns-in_err-commit_pages-clause-any_moment : goal.returns-in_err-commit_pages-clause-any_moment
returns-in_err-commit_pages-clause-any_moment g c = λ told x y l m apart new. any_moment c.args.image.now c.args.pages.items c.args.root c.as_slice.result.now (rw c.as_slice.ensures.value c.in_ok-writes.ensures) c.requires.fingerprint c.requires.most c.requires.directory c.file_end-end.ensures.opened _ _ _ _ x y l m apart new (c.commit_pages.ensures.any_moment told)

pub returns-in_err-commit_pages-clause-put_most : goal.returns-in_err-commit_pages-clause-put_most
returns-in_err-commit_pages-clause-put_most g c = λ told. put_most c.args.image.now c.args.pages.items c.args.root c.as_slice.result.now (rw c.as_slice.ensures.value c.in_ok-writes.ensures) c.requires.fingerprint c.requires.most c.requires.directory c.file_end-end.ensures.opened _ _ _ _ (c.commit_pages.ensures.any_moment told)

pub returns-clause-any_moment : goal.returns-clause-any_moment
returns-clause-any_moment g c = λ told x y l m apart new. any_moment c.args.image.now c.args.pages.items c.args.root c.as_slice.result.now (rw c.as_slice.ensures.value c.in_ok-writes.ensures) c.requires.fingerprint c.requires.most c.requires.directory c.file_end-end.ensures.opened _ _ _ _ x y l m apart new (c.commit_pages.ensures.any_moment told)

pub returns-clause-put_most : goal.returns-clause-put_most
returns-clause-put_most g c = λ told. put_most c.args.image.now c.args.pages.items c.args.root c.as_slice.result.now (rw c.as_slice.ensures.value c.in_ok-writes.ensures) c.requires.fingerprint c.requires.most c.requires.directory c.file_end-end.ensures.opened _ _ _ _ (c.commit_pages.ensures.any_moment told)

pub returns-clause-put : goal.returns-clause-put
returns-clause-put g c = λ told. put c.args.image.now c.args.pages.items c.args.root c.as_slice.result.now (rw c.as_slice.ensures.value c.in_ok-writes.ensures) c.requires.fingerprint c.requires.most c.requires.directory c.file_end-end.ensures.opened _ _ _ _ _ refl (c.in_ok-commit_pages.ensures.ok told)

pub returns-clause-stands : goal.returns-clause-stands
returns-clause-stands g c = λ told y m new.
    let old = c.requires.apart told in
    stands c.args.image.now c.args.pages.items c.args.root c.as_slice.result.now (rw c.as_slice.ensures.value c.in_ok-writes.ensures) c.requires.fingerprint c.requires.most c.requires.directory c.file_end-end.ensures.opened (g.D.Device.state c.args.device.now) (g.D.Device.state c.commit_pages.new.device) (g.D.Device.leaves c.args.device.now) (g.D.Device.leaves c.commit_pages.new.device) old.0 y old.1 m old.2 new
    (file_is c.args.image.now c.args.pages.items c.args.root c.as_slice.result.now (rw c.as_slice.ensures.value c.in_ok-writes.ensures) _ _ c.selector-byte.result (c.selector-byte.ensures ∙ ap (λ (b : Bool). selector (not b)) c.second.ensures) (c.in_ok-commit_pages.ensures.ok told).holds)
