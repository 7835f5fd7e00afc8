use Rattle.std.proofs.Common.{◌≡◌, ◌+◌, ◌-◌, ◌∙◌, ap, sym, subst, true, false, drop, get_or, set, length, List, ℕ, Bool, arith}
use Rattle.kdcfile_layout.specs.Places.{At}
use Rattle.kdcfile_layout.specs.Pools.{flagged}
use Rattle.kdcfile_layout.specs.PoolsLaws.{length_flagged}
use Rattle.kdcfile_layout.proofs.page_pool.Plans.{flagged_down, next_used}
use Rattle.kdcfile_layout.proofs.page_pool.Pool.release_all.Goals as goal

pub release-requires-clause-few : goal.release-requires-clause-few
release-requires-clause-few c = omega (arith, c.requires.few, ap (λ (u : List Bool). length u) c.loop-n.invariant, length_flagged false (drop (length c.args.pages.now - c.loop-n.n) c.args.pages.now) c.args.self.now)

pub release-requires-clause-used : goal.release-requires-clause-used
release-requires-clause-used c =
    let at = length c.args.pages.now - 1 - c.loop-n.n in
    let next : at + 1 ≡ length c.args.pages.now - c.loop-n.n = omega (arith, c.loop-n-test.true) in
    subst (λ (u : List Bool). At u (get_or c.args.pages.now at 0) true) (sym (c.loop-n.invariant ∙ ap (λ (m : ℕ). flagged false c.args.self.now (drop m c.args.pages.now)) (sym next)))
    (next_used c.args.pages.now c.args.self.now at c.requires.distinct (omega (arith, c.loop-n-test.true)) c.requires.used)

pub loop-n-preserved : goal.loop-n-preserved
loop-n-preserved c =
    let pages = c.args.pages.now in
    let at = length pages - 1 - c.loop-n.n in
    let next : at + 1 ≡ length pages - c.loop-n.n = omega (arith, c.loop-n-test.true) in
    let this : at ≡ length pages - (c.loop-n.n + 1) = omega (arith, c.loop-n-test.true) in
    c.release.ensures
    ∙ ap (λ (u : List Bool). set u (get_or pages at 0) false) (c.loop-n.invariant ∙ ap (λ (m : ℕ). flagged false c.args.self.now (drop m pages)) (sym next))
    ∙ sym (flagged_down false c.args.self.now pages at (omega (arith, c.loop-n-test.true)))
    ∙ ap (λ (m : ℕ). flagged false c.args.self.now (drop m pages)) this
