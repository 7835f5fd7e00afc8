use Rattle.std.proofs.Common.{List, ℕ, length, ap, arith, length-append}
use Rattle.kdcfile_layout.specs.Layout.{zeros}
use Rattle.kdcfile_layout.specs.PagesLaws.{length_zeros}
use Rattle.kdcfile_layout.specs.Fresh.{made_with}
use Rattle.kdcfile_layout.proofs.kdcfile_images.Fresh.{made_stands, made_length, made_short, in_making}
use Rattle.kdcfile_layout.proofs.kdcfile_images.making.create.Goals as goal

pub write_fresh-requires-clause-few : goal.write_fresh-requires-clause-few
write_fresh-requires-clause-few g c = made_short (made_with c.args.blksize c.args.pgpool c.args.fingerprint.now) c.requires.identity _ _ _ c.as_slice.ensures.value c.in_ok-draft.ensures.bytes

pub returns-in_err-write_fresh-clause-any_moment : goal.returns-in_err-write_fresh-clause-any_moment
returns-in_err-write_fresh-clause-any_moment g c = λ told.
    in_making (made_with c.args.blksize c.args.pgpool c.args.fingerprint.now) c.requires.identity _ (rw c.as_slice.ensures.value c.in_ok-draft.ensures.bytes) _ _ _ _ (c.write_fresh.ensures.any_moment told)

pub returns-clause-any_moment : goal.returns-clause-any_moment
returns-clause-any_moment g c = λ told.
    in_making (made_with c.args.blksize c.args.pgpool c.args.fingerprint.now) c.requires.identity _ (rw c.as_slice.ensures.value c.in_ok-draft.ensures.bytes) _ _ _ _ (c.write_fresh.ensures.any_moment told)

pub returns-clause-stands : goal.returns-clause-stands
returns-clause-stands g c = λ told. made_stands (made_with c.args.blksize c.args.pgpool c.args.fingerprint.now) c.requires.identity _ (rw c.as_slice.ensures.value c.in_ok-draft.ensures.bytes) _ ((c.in_ok-write_fresh.ensures.ok told).holds)

pub returns-clause-length : goal.returns-clause-length
returns-clause-length g c = λ told.
    omega (arith, ap (λ (l : List ℕ). length l) ((c.in_ok-write_fresh.ensures.ok told).holds), length-append c.as_slice.result.now (zeros c.in_ok-draft.draft.pages), length_zeros c.in_ok-draft.draft.pages, made_length (made_with c.args.blksize c.args.pgpool c.args.fingerprint.now) c.requires.identity _ _ _ c.as_slice.ensures.value c.in_ok-draft.ensures.bytes)

pub returns-clause-put : goal.returns-clause-put
returns-clause-put g c = λ told. omega (arith, (c.in_ok-write_fresh.ensures.ok told).put, made_length (made_with c.args.blksize c.args.pgpool c.args.fingerprint.now) c.requires.identity _ _ _ c.as_slice.ensures.value c.in_ok-draft.ensures.bytes)

pub returns-clause-put_most : goal.returns-clause-put_most
returns-clause-put_most g c = λ told. omega (arith, c.write_fresh.ensures.put_most told, made_length (made_with c.args.blksize c.args.pgpool c.args.fingerprint.now) c.requires.identity _ _ _ c.as_slice.ensures.value c.in_ok-draft.ensures.bytes)

pub returns-in_err-write_fresh-clause-put_most : goal.returns-in_err-write_fresh-clause-put_most
returns-in_err-write_fresh-clause-put_most g c = λ told. omega (arith, c.write_fresh.ensures.put_most told, made_length (made_with c.args.blksize c.args.pgpool c.args.fingerprint.now) c.requires.identity _ _ _ c.as_slice.ensures.value c.in_ok-draft.ensures.bytes)
