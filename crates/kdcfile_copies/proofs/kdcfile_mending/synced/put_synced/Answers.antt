use Rattle.std.proofs.Common.{ap, ◌∙◌, arith}
use Rattle.std.specs.Prelude.{IsTrue}
use Rattle.kd_device.specs.Device.{written}
use Rattle.kdcfile_copies.proofs.kdcfile_mending.Halves.{goes_then, goes_on, goes_each}
use Rattle.kdcfile_copies.proofs.kdcfile_mending.Put.{put_reserved, put_wrote, put_synced, put_rest, reserved_put, synced_put, wrote_put}
use Rattle.kdcfile_copies.proofs.kdcfile_mending.synced.put_synced.Goals as goal

pub returns-in_err-reserve-clause-goes : goal.returns-in_err-reserve-clause-goes
returns-in_err-reserve-clause-goes g c = goes_each c.args.target _ _ (c.reserve.ensures.frame c.args.target) c.reserve.ensures.line c.reserve.ensures.disk

pub returns-in_err-reserve-clause-any_moment : goal.returns-in_err-reserve-clause-any_moment
returns-in_err-reserve-clause-any_moment g c = λ told. put_reserved c.args.target c.args.at c.args.bytes.now _ _ _ _ (c.requires.at_rest told) c.reserve.ensures.disk (c.reserve.ensures.content told)

pub returns-in_err-reserve-clause-put_most : goal.returns-in_err-reserve-clause-put_most
returns-in_err-reserve-clause-put_most g c = λ told. reserved_put c.args.target c.args.at c.args.bytes.now _ _ _ _ (c.requires.at_rest told) c.reserve.ensures.disk (c.reserve.ensures.content told)

pub returns-in_err-write_at-clause-goes : goal.returns-in_err-write_at-clause-goes
returns-in_err-write_at-clause-goes g c =
    goes_then c.args.target _ _ _ (goes_each c.args.target _ _ (c.reserve.ensures.frame c.args.target) c.reserve.ensures.line c.reserve.ensures.disk)
    (goes_on c.args.target _ _ c.write_at.ensures.frame c.write_at.ensures.line c.write_at.ensures.names c.write_at.ensures.other_half)

pub returns-in_err-write_at-clause-any_moment : goal.returns-in_err-write_at-clause-any_moment
returns-in_err-write_at-clause-any_moment g c = λ told.
    let told_b : IsTrue (g.T.Twin.both c.reserve.new.self).told = rw (c.reserve.ensures.frame c.args.target).told told in
    put_wrote c.args.target c.args.at c.args.bytes.now _ _ _ _ (c.requires.at_rest told) c.reserve.ensures.disk (c.reserve.ensures.content told) _ _ c.write_at.result (c.write_at.ensures.content told_b) c.write_at.ensures.other_half

pub returns-in_err-write_at-clause-put_most : goal.returns-in_err-write_at-clause-put_most
returns-in_err-write_at-clause-put_most g c = λ told.
    let told_b : IsTrue (g.T.Twin.both c.reserve.new.self).told = rw (c.reserve.ensures.frame c.args.target).told told in
    wrote_put c.args.target c.args.at c.args.bytes.now _ _ _ _ (c.requires.at_rest told) c.reserve.ensures.disk (c.reserve.ensures.content told) _ _ c.write_at.result (c.write_at.ensures.content told_b) c.write_at.ensures.other_half

pub returns-in_err-sync-clause-goes : goal.returns-in_err-sync-clause-goes
returns-in_err-sync-clause-goes g c =
    goes_then c.args.target _ _ _
    (goes_then c.args.target _ _ _ (goes_each c.args.target _ _ (c.reserve.ensures.frame c.args.target) c.reserve.ensures.line c.reserve.ensures.disk)
    (goes_on c.args.target _ _ c.write_at.ensures.frame c.write_at.ensures.line c.write_at.ensures.names c.write_at.ensures.other_half))
    (goes_on c.args.target _ _ c.sync.ensures.frame c.sync.ensures.line c.sync.ensures.names c.sync.ensures.other_half)

pub returns-in_err-sync-clause-any_moment : goal.returns-in_err-sync-clause-any_moment
returns-in_err-sync-clause-any_moment g c = λ told.
    let told_b : IsTrue (g.T.Twin.both c.reserve.new.self).told = rw (c.reserve.ensures.frame c.args.target).told told in
    let told_d : IsTrue (g.T.Twin.both c.write_at.new.self).told = rw c.write_at.ensures.frame.told told_b in
    put_synced c.args.target c.args.at c.args.bytes.now _ _ _ _ (c.requires.at_rest told) c.reserve.ensures.disk (c.reserve.ensures.content told) _ _ c.write_at.result (c.write_at.ensures.content told_b) c.write_at.ensures.other_half _ _ (c.sync.ensures.content told_d) c.sync.ensures.other_half

pub returns-in_err-sync-clause-put_most : goal.returns-in_err-sync-clause-put_most
returns-in_err-sync-clause-put_most g c = λ told.
    let told_b : IsTrue (g.T.Twin.both c.reserve.new.self).told = rw (c.reserve.ensures.frame c.args.target).told told in
    let told_d : IsTrue (g.T.Twin.both c.write_at.new.self).told = rw c.write_at.ensures.frame.told told_b in
    synced_put c.args.target c.args.at c.args.bytes.now _ _ _ _ (c.requires.at_rest told) c.reserve.ensures.disk (c.reserve.ensures.content told) _ _ c.write_at.result (c.write_at.ensures.content told_b) c.write_at.ensures.other_half _ _ (c.sync.ensures.content told_d) c.sync.ensures.other_half

pub returns-clause-goes : goal.returns-clause-goes
returns-clause-goes g c =
    goes_then c.args.target _ _ _
    (goes_then c.args.target _ _ _ (goes_each c.args.target _ _ (c.reserve.ensures.frame c.args.target) c.reserve.ensures.line c.reserve.ensures.disk)
    (goes_on c.args.target _ _ c.write_at.ensures.frame c.write_at.ensures.line c.write_at.ensures.names c.write_at.ensures.other_half))
    (goes_on c.args.target _ _ c.sync.ensures.frame c.sync.ensures.line c.sync.ensures.names c.sync.ensures.other_half)

pub returns-clause-any_moment : goal.returns-clause-any_moment
returns-clause-any_moment g c = λ told.
    let told_b : IsTrue (g.T.Twin.both c.reserve.new.self).told = rw (c.reserve.ensures.frame c.args.target).told told in
    let told_d : IsTrue (g.T.Twin.both c.write_at.new.self).told = rw c.write_at.ensures.frame.told told_b in
    put_synced c.args.target c.args.at c.args.bytes.now _ _ _ _ (c.requires.at_rest told) c.reserve.ensures.disk (c.reserve.ensures.content told) _ _ c.write_at.result (c.write_at.ensures.content told_b) c.write_at.ensures.other_half _ _ (c.sync.ensures.content told_d) c.sync.ensures.other_half

pub returns-clause-put_most : goal.returns-clause-put_most
returns-clause-put_most g c = λ told.
    let told_b : IsTrue (g.T.Twin.both c.reserve.new.self).told = rw (c.reserve.ensures.frame c.args.target).told told in
    let told_d : IsTrue (g.T.Twin.both c.write_at.new.self).told = rw c.write_at.ensures.frame.told told_b in
    synced_put c.args.target c.args.at c.args.bytes.now _ _ _ _ (c.requires.at_rest told) c.reserve.ensures.disk (c.reserve.ensures.content told) _ _ c.write_at.result (c.write_at.ensures.content told_b) c.write_at.ensures.other_half _ _ (c.sync.ensures.content told_d) c.sync.ensures.other_half

pub returns-clause-holds : goal.returns-clause-holds
returns-clause-holds g c = λ told.
    let told_b : IsTrue (g.T.Twin.both c.reserve.new.self).told = rw (c.reserve.ensures.frame c.args.target).told told in
    let told_d : IsTrue (g.T.Twin.both c.write_at.new.self).told = rw c.write_at.ensures.frame.told told_b in
    (c.sync.ensures.content told_d c.args.bytes.now).holds ∙ (c.in_ok-write_at.ensures.content told_b c.args.bytes.now).holds ∙ ap (λ d. written d.holds c.args.at c.args.bytes.now) (c.reserve.ensures.disk c.args.target)

pub returns-clause-rest : goal.returns-clause-rest
returns-clause-rest g c = λ told.
    let told_b : IsTrue (g.T.Twin.both c.reserve.new.self).told = rw (c.reserve.ensures.frame c.args.target).told told in
    let told_d : IsTrue (g.T.Twin.both c.write_at.new.self).told = rw c.write_at.ensures.frame.told told_b in
    put_rest c.args.target c.args.at c.args.bytes.now _ _ _ _ (c.requires.at_rest told) c.reserve.ensures.disk (c.reserve.ensures.content told) _ _ c.write_at.result (c.write_at.ensures.content told_b) c.write_at.ensures.other_half _ _ (c.sync.ensures.content told_d) c.sync.ensures.other_half (c.in_ok-sync.ensures.durable told_d)

pub write_at-requires-clause-spare : goal.write_at-requires-clause-spare
write_at-requires-clause-spare g c =
    let room = c.in_ok-reserve.ensures.spare c.args.target in
    record { calls = omega (arith, room.calls); bytes = room.bytes }

pub write_at-requires-clause-inside : goal.write_at-requires-clause-inside
write_at-requires-clause-inside g c = (c.in_ok-reserve.ensures.spare c.args.target).end

pub sync-requires : goal.sync-requires
sync-requires g c =
    let room = c.in_ok-reserve.ensures.spare c.args.target in
    record { calls = omega (arith, room.calls, c.write_at.ensures.spare.calls); bytes = omega arith }
