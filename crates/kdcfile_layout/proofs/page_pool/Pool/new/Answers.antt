use Rattle.std.proofs.Common.{◌≡◌, false, rules, subst, sym, List, Bool}
use Rattle.std.specs.Prelude.{replicate}
use Rattle.kdcfile_layout.specs.Pools.{IsPool}
use Rattle.kdcfile_layout.proofs.page_pool.Plans.{new_pool}
use Rattle.kdcfile_layout.proofs.page_pool.Pool.new.Goals as goal

pub invariant_of-result : goal.invariant_of-result
invariant_of-result c =
    let used : c.in_ok-used.used.items ≡ replicate c.args.pages false = search rules in
    subst (λ (u : List Bool). IsPool u c.in_ok-order.order.items c.in_ok-place.place.items c.args.pages) (sym used) (new_pool c.in_ok-order.order.items c.in_ok-place.place.items c.args.pages c.in_ok-order.ensures c.in_ok-place.ensures)
