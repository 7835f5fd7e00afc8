use Rattle.std.proofs.Common.{◌∙◌, Bool, false, List, ap}
use Rattle.std.specs.Prelude.{set}
use Rattle.page_drafts.specs.Stale.{flags_of}
use Rattle.page_drafts.specs.StaleLaws.{cleared, cleared_below}
use Rattle.page_drafts.proofs.stale.StalePages.clear.Goals as goal

pub invariant_of-self : goal.invariant_of-self
invariant_of-self c = rw c.remove.ensures.left (cleared_below c.self.inside.count c.args.page c.self.inside.stale c.self.invariant)

pub returns : goal.returns
returns c =
    ap (flags_of c.self.inside.count) c.remove.ensures.left
    ∙ cleared c.self.inside.count c.args.page c.self.inside.stale
    ∙ ap (λ (l : List Bool). set l c.args.page false) c.self.view_is
