use Rattle.std.proofs.Common.{◌<◌, ◌-◌, length, false, arith}
use Rattle.kdcfile_layout.proofs.page_pool.Exchanges.{place_at, place_in, page_in, free_place, page_there, flag_at, marked}
use Rattle.kdcfile_layout.proofs.page_pool.Pool.mark.Goals as goal

pub exchange-requires-clause-a : goal.exchange-requires-clause-a
exchange-requires-clause-a c =
    let there : c.args.page < length c.self.inside.used.items = rw c.self.view_is c.requires.there in
    place_in _ _ _ _ c.self.invariant c.args.page c.index-2.result.now (place_at _ _ _ _ c.self.invariant c.args.page c.index-2.result.now there c.index-2.ensures)

pub exchange-requires-clause-b : goal.exchange-requires-clause-b
exchange-requires-clause-b c =
    let there : c.args.page < length c.self.inside.used.items = rw c.self.view_is c.requires.there in
    let at = place_at _ _ _ _ c.self.invariant c.args.page c.index-2.result.now there c.index-2.ensures in
    let clear = flag_at c.self.inside.used.items c.args.page c.index.result.now false there c.index.ensures c.if-index.false in
    let before : c.index-2.result.now < c.self.inside.free = free_place _ _ _ _ c.self.invariant c.args.page c.index-2.result.now at clear in
    omega (arith, before, c.self.invariant.within, c.self.invariant.order_length)

pub exchange-requires-clause-other : goal.exchange-requires-clause-other
exchange-requires-clause-other c = λ q at. page_in _ _ _ _ c.self.invariant (c.self.inside.free - 1) q at

pub invariant_of-self : goal.invariant_of-self
invariant_of-self c =
    let there : c.args.page < length c.self.inside.used.items = rw c.self.view_is c.requires.there in
    let at = place_at _ _ _ _ c.self.invariant c.args.page c.index-2.result.now there c.index-2.ensures in
    let clear = flag_at c.self.inside.used.items c.args.page c.index.result.now false there c.index.ensures c.if-index.false in
    let before : c.index-2.result.now < c.self.inside.free = free_place _ _ _ _ c.self.invariant c.args.page c.index-2.result.now at clear in
    let border : c.self.inside.free - 1 < length c.self.inside.order.items = omega (arith, before, c.self.invariant.within, c.self.invariant.order_length) in
    let q = page_there _ _ _ _ c.self.invariant (c.self.inside.free - 1) border in
    rw (c.exchange.ensures.order q.0 q.1, c.exchange.ensures.place q.0 q.1) (marked _ _ _ _ c.self.invariant c.args.page c.index-2.result.now q.0 at clear q.1)

pub returns-clause-answer : goal.returns-clause-answer
returns-clause-answer c =
    let there : c.args.page < length c.self.inside.used.items = rw c.self.view_is c.requires.there in
    rw (← c.self.view_is) (flag_at c.self.inside.used.items c.args.page c.index.result.now false there c.index.ensures c.if-index.false)
