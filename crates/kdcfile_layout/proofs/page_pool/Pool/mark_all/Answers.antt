use Rattle.std.proofs.Common.{◌∙◌, ap, sym, true, take, get_or, set, length, List, Bool, arith}
use Rattle.std.proofs.lemmas.Option.{slice_get-get_or}
use Rattle.kdcfile_layout.proofs.page_pool.Plans.{flagged_more}
use Rattle.kdcfile_layout.specs.PoolsLaws.{length_flagged}
use Rattle.kdcfile_layout.proofs.page_pool.Pool.mark_all.Goals as goal

pub mark-requires-clause-few : goal.mark-requires-clause-few
mark-requires-clause-few c = omega (arith, c.requires.few, ap (λ (u : List Bool). length u) c.loop-page.invariant, length_flagged true (take c.loop-page.page-index c.args.pages.now) c.args.self.now)

pub mark-requires-clause-there : goal.mark-requires-clause-there
mark-requires-clause-there c =
    omega
    (arith, c.requires.there c.loop-page.page-index (get_or c.args.pages.now c.loop-page.page-index 0) (slice_get-get_or c.args.pages.now c.loop-page.page-index 0 c.loop-page-test.true), ap (λ (u : List Bool). length u) c.loop-page.invariant, length_flagged true (take c.loop-page.page-index c.args.pages.now) c.args.self.now)

pub loop-page-preserved : goal.loop-page-preserved
loop-page-preserved c =
    c.mark.ensures.used ∙ ap (λ (u : List Bool). set u (get_or c.args.pages.now c.loop-page.page-index 0) true) c.loop-page.invariant ∙ sym (flagged_more true c.args.self.now c.args.pages.now c.loop-page.page-index c.loop-page-test.true)
