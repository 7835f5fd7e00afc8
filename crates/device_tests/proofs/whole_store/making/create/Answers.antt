use Rattle.std.proofs.Common.{◌∙◌, ◌+◌, ◌≤◌, ◌++◌, List, [], ℕ, length, ap, arith}
use Rattle.std.proofs.lemmas.List.{append-nil}
use Rattle.std.specs.Prelude.{IsTrue}
use Rattle.device_tests.proofs.whole_store.Fresh.{made_stands, made_length, in_making}
use Rattle.device_tests.proofs.whole_store.making.create.Goals as goal

pub returns-in_err-make_file-clause-any_moment : goal.returns-in_err-make_file-clause-any_moment
returns-in_err-make_file-clause-any_moment g c = λ told.
    in_making (record { blksize = c.args.blksize; pages = c.args.pgpool; fingerprint = c.args.fingerprint.now }) c.requires.identity (c.as_slice.result.now ++ []) (append-nil c.as_slice.result.now ∙ c.as_slice.ensures.value ∙ c.in_ok-draft.ensures.rest) _ _ _ _ _ _ (c.requires.empty told) (c.requires.at_rest told) (c.reserve.ensures.content told)
    (c.make_file.ensures.any_moment (rw c.reserve.ensures.frame.told told))

pub returns-clause-any_moment : goal.returns-clause-any_moment
returns-clause-any_moment g c = λ told.
    in_making (record { blksize = c.args.blksize; pages = c.args.pgpool; fingerprint = c.args.fingerprint.now }) c.requires.identity (c.as_slice.result.now ++ []) (append-nil c.as_slice.result.now ∙ c.as_slice.ensures.value ∙ c.in_ok-draft.ensures.rest) _ _ _ _ _ _ (c.requires.empty told) (c.requires.at_rest told) (c.reserve.ensures.content told)
    (c.make_file.ensures.any_moment (rw c.reserve.ensures.frame.told told))

pub returns-clause-stands : goal.returns-clause-stands
returns-clause-stands g c = λ told.
    let told_r : IsTrue (g.D.Device.state c.reserve.new.self).told = rw c.reserve.ensures.frame.told told in
    rw ((c.in_ok-make_file.ensures.ok told_r).holds) (made_stands (record { blksize = c.args.blksize; pages = c.args.pgpool; fingerprint = c.args.fingerprint.now }) c.requires.identity (c.as_slice.result.now ++ []) (append-nil c.as_slice.result.now ∙ c.as_slice.ensures.value ∙ c.in_ok-draft.ensures.rest))

pub returns-clause-length : goal.returns-clause-length
returns-clause-length g c = λ told.
    let told_r : IsTrue (g.D.Device.state c.reserve.new.self).told = rw c.reserve.ensures.frame.told told in
    ap (λ (l : List ℕ). length l) ((c.in_ok-make_file.ensures.ok told_r).holds) ∙ made_length (record { blksize = c.args.blksize; pages = c.args.pgpool; fingerprint = c.args.fingerprint.now }) c.requires.identity (c.as_slice.result.now ++ []) (append-nil c.as_slice.result.now ∙ c.as_slice.ensures.value ∙ c.in_ok-draft.ensures.rest)

pub returns-in_err-make_file-clause-put_most : goal.returns-in_err-make_file-clause-put_most
returns-in_err-make_file-clause-put_most g c = λ told.
    let told_r : IsTrue (g.D.Device.state c.reserve.new.self).told = rw c.reserve.ensures.frame.told told in
    let long = made_length (record { blksize = c.args.blksize; pages = c.args.pgpool; fingerprint = c.args.fingerprint.now }) c.requires.identity (c.as_slice.result.now ++ []) (append-nil c.as_slice.result.now ∙ c.as_slice.ensures.value ∙ c.in_ok-draft.ensures.rest) in
    let most : (g.D.Device.state c.make_file.new.device).put ≤ (g.D.Device.state c.reserve.new.self).put + length (c.as_slice.result.now ++ []) + 2 = c.make_file.ensures.put_most told_r in
    omega (arith, long, most, (c.reserve.ensures.content told).put)

pub returns-clause-put_most : goal.returns-clause-put_most
returns-clause-put_most g c = λ told.
    let told_r : IsTrue (g.D.Device.state c.reserve.new.self).told = rw c.reserve.ensures.frame.told told in
    let long = made_length (record { blksize = c.args.blksize; pages = c.args.pgpool; fingerprint = c.args.fingerprint.now }) c.requires.identity (c.as_slice.result.now ++ []) (append-nil c.as_slice.result.now ∙ c.as_slice.ensures.value ∙ c.in_ok-draft.ensures.rest) in
    let most : (g.D.Device.state c.make_file.new.device).put ≤ (g.D.Device.state c.reserve.new.self).put + length (c.as_slice.result.now ++ []) + 2 = c.make_file.ensures.put_most told_r in
    omega (arith, long, most, (c.reserve.ensures.content told).put)
