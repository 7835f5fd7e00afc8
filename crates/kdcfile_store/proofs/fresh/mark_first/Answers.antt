use Rattle.std.proofs.Common.{◌∙◌, ap, arith}
use Rattle.std.specs.Prelude.{set, true, List, Bool}
use Rattle.kdcfile_layout.specs.Fresh.{numbers}
use Rattle.kdcfile_store.proofs.FreshPool.{marked_none, marked_more, marked_length}
use Rattle.kdcfile_store.proofs.fresh.mark_first.Goals as goal

pub loop-page-init : goal.loop-page-init
loop-page-init c = marked_none _

pub mark-requires-clause-few : goal.mark-requires-clause-few
mark-requires-clause-few c = omega (arith, marked_length c.args.pool.now c.loop-page.pool (numbers c.loop-page.page) c.loop-page.invariant, c.requires.few)

pub mark-requires-clause-there : goal.mark-requires-clause-there
mark-requires-clause-there c = omega (arith, marked_length c.args.pool.now c.loop-page.pool (numbers c.loop-page.page) c.loop-page.invariant, c.requires.there, c.loop-page-test.true)

pub loop-page-preserved : goal.loop-page-preserved
loop-page-preserved c = c.mark.ensures.used ∙ ap (λ (l : List Bool). set l c.loop-page.page true) c.loop-page.invariant ∙ marked_more _ c.loop-page.page _ (omega arith)
