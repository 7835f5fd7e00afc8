use Rattle.std.proofs.Common.{◌≤◌, ap, subst, sym, List, ℕ, Bool, arith}
use Rattle.kdcfile_layout.specs.Pools.{ArePlanned, free_count}
use Rattle.kdcfile_layout.proofs.page_pool.Plans.{planned}
use Rattle.kdcfile_layout.proofs.page_pool.Pool.plan.Goals as goal

pub returns-clause-planned : goal.returns-clause-planned
returns-clause-planned c =
    let count : c.args.needed ≤ c.self.inside.free = omega (arith, c.requires.enough, c.self.invariant.count, ap (λ (u : List Bool). free_count u) c.self.view_is) in
    rw (← c.self.view_is) (subst (λ (l : List ℕ). ArePlanned c.self.inside.used.items c.args.needed l) (sym c.from_vec.ensures) (planned _ _ _ _ c.self.invariant c.args.needed _ count c.in_ok-pages.ensures))
