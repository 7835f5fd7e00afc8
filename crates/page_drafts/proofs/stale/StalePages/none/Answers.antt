use Rattle.page_drafts.specs.StaleLaws.{none_flagged}
use Rattle.page_drafts.proofs.stale.StalePages.none.Goals as goal

pub returns : goal.returns
returns c = none_flagged c.args.count c.new.result c.new.ensures
