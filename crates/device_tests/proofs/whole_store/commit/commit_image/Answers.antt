use Rattle.std.proofs.Common.{Bool, not, refl, ap, ◌∙◌}
use Rattle.kdcfile_layout.specs.Layout.{selector}
use Rattle.device_tests.proofs.whole_store.Crash.{few, below, put, put_most, holds, any_moment}
use Rattle.device_tests.proofs.whole_store.commit.commit_image.Goals as goal

pub commit_pages-requires-clause-few : goal.commit_pages-requires-clause-few
commit_pages-requires-clause-few g c = few c.args.image.now c.args.body.now c.args.root.now c.as_slice.result.now (rw c.as_slice.ensures.value c.in_ok-writes.ensures.write) c.in_ok-writes.ensures.length c.requires.inside c.unselected_end-end.ensures.identity

pub commit_pages-requires-clause-inside : goal.commit_pages-requires-clause-inside
commit_pages-requires-clause-inside g c = below c.args.image.now c.args.body.now c.args.root.now c.as_slice.result.now (rw c.as_slice.ensures.value c.in_ok-writes.ensures.write) c.in_ok-writes.ensures.length c.requires.inside c.unselected_end-end.result c.unselected_end-end.ensures.value

pub returns-in_err-commit_pages-clause-any_moment : goal.returns-in_err-commit_pages-clause-any_moment
returns-in_err-commit_pages-clause-any_moment g c = λ told x y old new. any_moment c.args.image.now c.args.body.now c.args.root.now c.as_slice.result.now (rw c.as_slice.ensures.value c.in_ok-writes.ensures.write) c.in_ok-writes.ensures.length c.requires.inside _ _ _ _ (c.commit_pages.ensures.any_moment told) x y old new

pub returns-in_err-commit_pages-clause-put_most : goal.returns-in_err-commit_pages-clause-put_most
returns-in_err-commit_pages-clause-put_most g c = λ told. put_most c.args.image.now c.args.body.now c.args.root.now c.as_slice.result.now (rw c.as_slice.ensures.value c.in_ok-writes.ensures.write) c.in_ok-writes.ensures.length c.requires.inside _ _ _ _ (c.commit_pages.ensures.any_moment told)

pub returns-clause-any_moment : goal.returns-clause-any_moment
returns-clause-any_moment g c = λ told x y old new. any_moment c.args.image.now c.args.body.now c.args.root.now c.as_slice.result.now (rw c.as_slice.ensures.value c.in_ok-writes.ensures.write) c.in_ok-writes.ensures.length c.requires.inside _ _ _ _ (c.commit_pages.ensures.any_moment told) x y old new

pub returns-clause-put_most : goal.returns-clause-put_most
returns-clause-put_most g c = λ told. put_most c.args.image.now c.args.body.now c.args.root.now c.as_slice.result.now (rw c.as_slice.ensures.value c.in_ok-writes.ensures.write) c.in_ok-writes.ensures.length c.requires.inside _ _ _ _ (c.commit_pages.ensures.any_moment told)

pub returns-clause-put : goal.returns-clause-put
returns-clause-put g c = λ told. put c.args.image.now c.args.body.now c.args.root.now c.as_slice.result.now (rw c.as_slice.ensures.value c.in_ok-writes.ensures.write) c.in_ok-writes.ensures.length c.requires.inside _ _ _ _ _ refl (c.in_ok-commit_pages.ensures.ok told)

pub returns-clause-holds : goal.returns-clause-holds
returns-clause-holds g c = λ told. holds c.args.image.now c.args.body.now c.args.root.now c.as_slice.result.now (rw c.as_slice.ensures.value c.in_ok-writes.ensures.write) c.in_ok-writes.ensures.length c.requires.inside _ _ c.selector-byte.result (c.selector-byte.ensures ∙ ap (λ (b : Bool). selector (not b)) c.second.ensures) (c.in_ok-commit_pages.ensures.ok told).holds
