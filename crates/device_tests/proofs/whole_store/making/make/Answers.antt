use Rattle.std.proofs.Common.{◌≡◌, ◌∙◌, ◌++◌, ◌+◌, ◌*◌, List, ℕ, subst}
use Rattle.kd_records.specs.Identity.{Identity}
use Rattle.device_tests.specs.File.{root, mark}
use Rattle.kdcfile_layout.specs.Layout.{fresh}
use Rattle.kdcfile_layout.specs.Layout.{zeros}
use Rattle.device_tests.proofs.whole_store.making.make.Goals as goal

pub returns-clause-rest : goal.returns-clause-rest
returns-clause-rest c =
    let i : Identity = record { blksize = c.args.blksize; pages = c.args.pgpool; fingerprint = c.args.fingerprint.now } in
    let bytes : c.as_slice.result.now ≡ root i fresh = c.as_slice.ensures ∙ c.in_ok-bytes.ensures.bytes in
    subst (λ (l : List ℕ). c.in_ok-rest.rest.items ≡ mark i ++ zeros 8175 ++ (l ++ zeros (8128 + c.args.pgpool * c.args.blksize)) ++ (l ++ zeros (8128 + c.args.pgpool * c.args.blksize))) bytes (c.in_ok-rest.ensures c.args.fingerprint.now)
