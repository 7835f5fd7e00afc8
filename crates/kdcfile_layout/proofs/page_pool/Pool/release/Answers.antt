use Rattle.std.proofs.Common.{◌<◌, ◌≤◌, length, true, arith}
use Rattle.std.proofs.lemmas.Option.{slice_get_within}
use Rattle.kdcfile_layout.specs.Places.{At}
use Rattle.kdcfile_layout.proofs.page_pool.Exchanges.{place_at, place_in, page_in, used_place, page_there, freed}
use Rattle.kdcfile_layout.proofs.page_pool.Pool.release.Goals as goal

pub exchange-requires-clause-a : goal.exchange-requires-clause-a
exchange-requires-clause-a c =
    let taken : At c.self.inside.used.items c.args.page true = rw c.self.view_is c.requires.used in
    place_in _ _ _ _ c.self.invariant c.args.page c.index.result.now (place_at _ _ _ _ c.self.invariant c.args.page c.index.result.now (slice_get_within c.self.inside.used.items c.args.page true taken) c.index.ensures)

pub exchange-requires-clause-b : goal.exchange-requires-clause-b
exchange-requires-clause-b c =
    let taken : At c.self.inside.used.items c.args.page true = rw c.self.view_is c.requires.used in
    let at = place_at _ _ _ _ c.self.invariant c.args.page c.index.result.now (slice_get_within c.self.inside.used.items c.args.page true taken) c.index.ensures in
    let after : c.self.inside.free ≤ c.index.result.now = used_place _ _ _ _ c.self.invariant c.args.page c.index.result.now at taken in
    let there : c.index.result.now < length c.self.inside.order.items = place_in _ _ _ _ c.self.invariant c.args.page c.index.result.now at in
    omega (arith, after, there)

pub exchange-requires-clause-other : goal.exchange-requires-clause-other
exchange-requires-clause-other c = λ q at. page_in _ _ _ _ c.self.invariant c.self.inside.free q at

pub invariant_of-self : goal.invariant_of-self
invariant_of-self c =
    let taken : At c.self.inside.used.items c.args.page true = rw c.self.view_is c.requires.used in
    let at = place_at _ _ _ _ c.self.invariant c.args.page c.index.result.now (slice_get_within c.self.inside.used.items c.args.page true taken) c.index.ensures in
    let after : c.self.inside.free ≤ c.index.result.now = used_place _ _ _ _ c.self.invariant c.args.page c.index.result.now at taken in
    let there : c.index.result.now < length c.self.inside.order.items = place_in _ _ _ _ c.self.invariant c.args.page c.index.result.now at in
    let border : c.self.inside.free < length c.self.inside.order.items = omega (arith, after, there) in
    let q = page_there _ _ _ _ c.self.invariant c.self.inside.free border in
    rw (c.exchange.ensures.order q.0 q.1, c.exchange.ensures.place q.0 q.1) (freed _ _ _ _ c.self.invariant c.args.page c.index.result.now q.0 at taken q.1)
