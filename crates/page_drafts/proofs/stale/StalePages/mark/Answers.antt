use Rattle.std.proofs.Common.{◌∙◌, ◌<◌, Bool, true, List, length, ap, arith}
use Rattle.std.specs.Prelude.{set}
use Rattle.std.proofs.lemmas.Result.{on_ok_weaker}
use Rattle.page_drafts.specs.Stale.{flags_of}
use Rattle.page_drafts.specs.StaleLaws.{length_flags, marked, put_below}
use Rattle.page_drafts.proofs.stale.StalePages.mark.Goals as goal

pub invariant_of-self : goal.invariant_of-self
invariant_of-self c =
    let there : c.args.page < c.self.inside.count = omega (arith, c.requires, ap (λ (l : List Bool). length l) c.self.view_is, length_flags c.self.inside.count c.self.inside.stale) in
    put_below c.put.result c.self.inside.count c.args.page _ c.self.inside.stale c.put.new.self there c.self.invariant c.put.ensures.ok c.put.ensures.err

pub returns : goal.returns
returns c =
    on_ok_weaker c.put.result
    (λ put. ap (flags_of c.self.inside.count) put ∙ marked c.self.inside.count c.args.page _ c.self.inside.stale ∙ ap (λ (l : List Bool). set l c.args.page true) c.self.view_is)
    c.put.ensures.ok
