use Rattle.std.proofs.Common.{sym, subst, ap, arith}
use Rattle.page_drafts.specs.Drafting.{Drafting, IsSized}
use Rattle.page_drafts.specs.DraftRuns.{RemovesAll}
use Rattle.page_drafts.specs.PreparedLaws.{begun_sized, room_after, pages_after, prepared}
use Rattle.std.proofs.lemmas.Result.{on_ok_weaker}
use Rattle.page_drafts.proofs.draft.Draft.prepare.Goals as goal

pub remove_all-requires-clause-sized : goal.remove_all-requires-clause-sized
remove_all-requires-clause-sized c =
    let room = c.requires.room in
    subst (λ (d : Drafting). IsSized c.args.size d) (sym c.requires.fresh) (begun_sized c.args.size room.0 room.1 c.args.plan.now c.args.changes.now c.args.self.now.layout room.2 c.args.self.now.long)

pub put_all-requires-clause-enough : goal.put_all-requires-clause-enough
put_all-requires-clause-enough c = omega (arith, c.requires.enough, c.in_ok-remove_all.ensures.ok.taken, ap (λ (d : Drafting). d.taken) c.requires.fresh)

pub put_all-requires-clause-room : goal.put_all-requires-clause-room
put_all-requires-clause-room c =
    let room = c.requires.room in
    (room.0, _, room_after c.args.size c.args.self.now.long c.args.plan.now c.args.changes.now c.args.self.now.layout c.remove_all.new.self (subst (λ (d : Drafting). RemovesAll c.args.size c.args.changes.now d c.remove_all.new.self) c.requires.fresh c.in_ok-remove_all.ensures.ok) room.0 room.1 room.2)

pub freshen_all-requires-clause-enough : goal.freshen_all-requires-clause-enough
freshen_all-requires-clause-enough c =
    pages_after c.args.size c.args.self.now.long c.args.plan.now c.args.changes.now c.args.self.now.layout c.remove_all.new.self (subst (λ (d : Drafting). RemovesAll c.args.size c.args.changes.now d c.remove_all.new.self) c.requires.fresh c.in_ok-remove_all.ensures.ok) c.put_all.new.self c.in_ok-put_all.ensures.ok c.requires.enough

pub returns-clause-ok : goal.returns-clause-ok
returns-clause-ok c =
    on_ok_weaker c.freshen_all.result
    (λ freshens. prepared c.args.size c.args.self.now.long c.args.plan.now c.args.changes.now c.args.self.now.layout c.remove_all.new.self (subst (λ (d : Drafting). RemovesAll c.args.size c.args.changes.now d c.remove_all.new.self) c.requires.fresh c.in_ok-remove_all.ensures.ok) c.put_all.new.self c.in_ok-put_all.ensures.ok c.freshen_all.new.self c.requires.enough freshens)
    c.freshen_all.ensures.ok
