use Rattle.std.proofs.Common.{[], arith}
use Rattle.device_tests.proofs.whole_store.StoreWriting.{few_records, slice_fits, slice_long, next_stands, renewed_stands, leaves_either}
use Rattle.device_tests.proofs.whole_store.whole.write_content.Goals as goal

pub next_root-root-requires : goal.next_root-root-requires
next_root-root-requires g c = record { few = few_records c.args.image.now c.args.content.now [] c.requires.identity c.requires.charge }

pub commit_image-requires-clause-inside : goal.commit_image-requires-clause-inside
commit_image-requires-clause-inside g c =
    slice_fits c.args.image.now c.args.content.now c.as_slice.result.now c.in_ok-body.body c.as_slice-2.result.now _ c.requires.identity c.requires.charge c.as_slice.ensures c.in_ok-body.ensures.length c.in_ok-body.ensures.bytes c.as_slice-2.ensures c.next_root-root.ensures

pub commit_image-requires-clause-would_stand : goal.commit_image-requires-clause-would_stand
commit_image-requires-clause-would_stand g c = λ told.
    let old = c.requires.stands told in
    (c.args.content.now, renewed_stands c.args.image.now c.args.content.now c.as_slice.result.now c.in_ok-body.body c.as_slice-2.result.now _ c.requires.identity c.requires.charge c.as_slice.ensures c.in_ok-body.ensures.length c.in_ok-body.ensures.bytes c.as_slice-2.ensures c.next_root-root.ensures old.0 _ (c.requires.fits told) old.1)

pub returns-in_err-commit_image-clause-any_moment : goal.returns-in_err-commit_image-clause-any_moment
returns-in_err-commit_image-clause-any_moment g c = λ told x old.
    leaves_either c.args.image.now c.args.content.now c.as_slice.result.now c.in_ok-body.body c.as_slice-2.result.now _ c.requires.identity c.requires.charge c.as_slice.ensures c.in_ok-body.ensures.length c.in_ok-body.ensures.bytes c.as_slice-2.ensures c.next_root-root.ensures x _ _ _ _ (c.requires.fits told) old (c.commit_image.ensures.any_moment told x c.args.content.now old)

pub returns-clause-stands : goal.returns-clause-stands
returns-clause-stands g c = λ told.
    let old = c.requires.stands told in
    rw (c.in_ok-commit_image.ensures.image, c.in_ok-commit_image.ensures.holds told)
    (next_stands c.args.image.now c.args.content.now c.as_slice.result.now c.in_ok-body.body c.as_slice-2.result.now _ c.requires.identity c.requires.charge c.as_slice.ensures c.in_ok-body.ensures.length c.in_ok-body.ensures.bytes c.as_slice-2.ensures c.next_root-root.ensures old.0 _ (c.requires.fits told) old.1)

pub returns-clause-any_moment : goal.returns-clause-any_moment
returns-clause-any_moment g c = λ told x old.
    leaves_either c.args.image.now c.args.content.now c.as_slice.result.now c.in_ok-body.body c.as_slice-2.result.now _ c.requires.identity c.requires.charge c.as_slice.ensures c.in_ok-body.ensures.length c.in_ok-body.ensures.bytes c.as_slice-2.ensures c.next_root-root.ensures x _ _ _ _ (c.requires.fits told) old (c.commit_image.ensures.any_moment told x c.args.content.now old)

pub returns-in_err-commit_image-clause-put_most : goal.returns-in_err-commit_image-clause-put_most
returns-in_err-commit_image-clause-put_most g c = λ told.
    let long =
    slice_long c.args.image.now c.args.content.now c.as_slice.result.now c.in_ok-body.body c.as_slice-2.result.now _ c.requires.identity c.requires.charge c.as_slice.ensures c.in_ok-body.ensures.length c.in_ok-body.ensures.bytes c.as_slice-2.ensures c.next_root-root.ensures in
    omega (arith, long, c.commit_image.ensures.put_most told)

pub returns-clause-put_most : goal.returns-clause-put_most
returns-clause-put_most g c = λ told.
    let long =
    slice_long c.args.image.now c.args.content.now c.as_slice.result.now c.in_ok-body.body c.as_slice-2.result.now _ c.requires.identity c.requires.charge c.as_slice.ensures c.in_ok-body.ensures.length c.in_ok-body.ensures.bytes c.as_slice-2.ensures c.next_root-root.ensures in
    omega (arith, long, c.commit_image.ensures.put_most told)
