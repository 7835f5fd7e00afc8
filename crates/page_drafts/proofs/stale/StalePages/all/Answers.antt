use Rattle.std.proofs.Common.{arith}
use Rattle.page_drafts.specs.StaleLaws.{all_set}
use Rattle.page_drafts.proofs.stale.StalePages.all.Goals as goal

pub returns : goal.returns
returns c = all_set c.loop-page.pages c.args.count c.loop-page.invariant.length (λ k lt. c.loop-page.invariant.marked k (omega (arith, lt, c.loop-page-test.false)))
