use Rattle.std.proofs.Common.{◌≡◌, ◌++◌, List, ℕ, length, ap, ◌∙◌, arith}
use Rattle.std.specs.Prelude.{IsTrue}
use Rattle.kdcfile_layout.specs.Layout.{zeros}
use Rattle.kdcfile_layout.specs.PagesLaws.{length_zeros}
use Rattle.kdcfile_layout.specs.Series.{together}
use Rattle.kdcfile_layout.proofs.kdcfile_images.Fresh.{from_empty, length_parts, zeros_in_all}
use Rattle.kdcfile_layout.proofs.kdcfile_images.making.write_fresh.Goals as goal

pub parts_of-requires-clause-buffer : goal.parts_of-requires-clause-buffer
parts_of-requires-clause-buffer g c = zeros_in_all c.as_slice.result.now _ (c.as_slice.ensures.value ∙ c.in_ok-buffer.ensures)

pub parts_of-requires-clause-some : goal.parts_of-requires-clause-some
parts_of-requires-clause-some g c = omega (arith, ap (λ (l : List ℕ). length l) (c.as_slice.ensures.value ∙ c.in_ok-buffer.ensures), length_zeros 65536)

pub make_file-requires-clause-few : goal.make_file-requires-clause-few
make_file-requires-clause-few g c = omega (arith, length_parts c.as_slice-2.result.now c.args.front.now c.args.count (rw c.as_slice-2.ensures.value c.in_ok-parts.ensures))

pub make_file-requires-clause-bytes : goal.make_file-requires-clause-bytes
make_file-requires-clause-bytes g c = omega (arith, length_parts c.as_slice-2.result.now c.args.front.now c.args.count (rw c.as_slice-2.ensures.value c.in_ok-parts.ensures), c.in_ok-reserve.ensures.spare.bytes)

pub make_file-requires-clause-inside : goal.make_file-requires-clause-inside
make_file-requires-clause-inside g c = omega (arith, length_parts c.as_slice-2.result.now c.args.front.now c.args.count (rw c.as_slice-2.ensures.value c.in_ok-parts.ensures), c.in_ok-reserve.ensures.spare.end)

pub returns-in_err-make_file-clause-put_most : goal.returns-in_err-make_file-clause-put_most
returns-in_err-make_file-clause-put_most g c = λ told.
    let told_r : IsTrue (g.D.Device.state c.reserve.new.self).told = rw c.reserve.ensures.frame.told told in
    omega (arith, length_parts c.as_slice-2.result.now c.args.front.now c.args.count (rw c.as_slice-2.ensures.value c.in_ok-parts.ensures), c.make_file.ensures.put_most told_r, (c.reserve.ensures.content told).put)

pub returns-in_err-make_file-clause-any_moment : goal.returns-in_err-make_file-clause-any_moment
returns-in_err-make_file-clause-any_moment g c = λ told.
    let whole : together c.as_slice-2.result.now ≡ c.args.front.now ++ zeros c.args.count = rw c.as_slice-2.ensures.value c.in_ok-parts.ensures in
    rw (← whole) (from_empty _ _ _ _ _ _ _ (c.requires.empty told) (c.requires.at_rest told) (c.reserve.ensures.content told) (c.make_file.ensures.any_moment (rw c.reserve.ensures.frame.told told)))

pub returns-clause-any_moment : goal.returns-clause-any_moment
returns-clause-any_moment g c = λ told.
    let whole : together c.as_slice-2.result.now ≡ c.args.front.now ++ zeros c.args.count = rw c.as_slice-2.ensures.value c.in_ok-parts.ensures in
    rw (← whole) (from_empty _ _ _ _ _ _ _ (c.requires.empty told) (c.requires.at_rest told) (c.reserve.ensures.content told) (c.make_file.ensures.any_moment (rw c.reserve.ensures.frame.told told)))

pub returns-clause-put_most : goal.returns-clause-put_most
returns-clause-put_most g c = λ told.
    let told_r : IsTrue (g.D.Device.state c.reserve.new.self).told = rw c.reserve.ensures.frame.told told in
    omega (arith, length_parts c.as_slice-2.result.now c.args.front.now c.args.count (rw c.as_slice-2.ensures.value c.in_ok-parts.ensures), c.make_file.ensures.put_most told_r, (c.reserve.ensures.content told).put)

pub returns-clause-ok : goal.returns-clause-ok
returns-clause-ok g c = λ told.
    let told_r : IsTrue (g.D.Device.state c.reserve.new.self).told = rw c.reserve.ensures.frame.told told in
    let whole : together c.as_slice-2.result.now ≡ c.args.front.now ++ zeros c.args.count = rw c.as_slice-2.ensures.value c.in_ok-parts.ensures in
    let long = length_parts c.as_slice-2.result.now c.args.front.now c.args.count whole in
    let done = c.in_ok-make_file.ensures.ok told_r in
    record { holds = rw (← whole) done.holds; put = omega (arith, long, done.put, (c.reserve.ensures.content told).put); at_rest = rw (← whole) done.at_rest }
