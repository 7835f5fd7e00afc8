use Rattle.std.proofs.Common.{[], sym, subst}
use Rattle.std.proofs.lemmas.Result.{on_ok_weaker}
use Rattle.page_drafts.specs.Drafting.{Drafting}
use Rattle.page_drafts.specs.DraftRuns.{PutsAll, HasRoom}
use Rattle.page_drafts.specs.WholeDrafts.{puts_of}
use Rattle.page_drafts.specs.WholeLaws.{room, prepared_whole}
use Rattle.page_drafts.proofs.draft.Draft.prepare_whole.Goals as goal

pub put_records-requires-clause-room : goal.put_records-requires-clause-room
put_records-requires-clause-room c =
    let can = c.requires.room in
    (can.0, [], subst (λ (d : Drafting). HasRoom c.args.size can.0 [] c.args.plan.now (puts_of c.args.records.now) d) (sym c.requires.fresh) (room c.args.size c.args.records.now c.args.plan.now c.args.self.now.layout can.0 can.1))

pub returns : goal.returns
returns c =
    on_ok_weaker c.freshen_all.result
    (λ freshens. prepared_whole c.args.size c.args.records.now c.args.plan.now c.args.self.now.layout c.put_records.new.self (subst (λ (d : Drafting). PutsAll c.args.size c.args.plan.now (puts_of c.args.records.now) d c.put_records.new.self) c.requires.fresh c.in_ok-put_records.ensures) c.freshen_all.new.self freshens)
    c.freshen_all.ensures.ok
