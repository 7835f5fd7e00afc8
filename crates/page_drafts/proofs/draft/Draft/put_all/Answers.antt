use Rattle.std.proofs.Common.{◌∙◌, length, refl}
use Rattle.std.proofs.lemmas.Option.{slice_get_read}
use Rattle.page_drafts.specs.DraftRunsLaws.{enough_here, puts_more, room_at}
use Rattle.page_drafts.proofs.draft.Draft.put_all.Goals as goal

pub put_change-requires-clause-value : goal.put_change-requires-clause-value
put_change-requires-clause-value c = λ v e.
    c.requires.values c.loop-change.change-index c.change-item.result v (slice_get_read c.args.changes.now (length c.args.changes.now) c.loop-change.change-index c.change-item.result refl c.loop-change-test.true c.change-item.is) e

pub put_change-requires-clause-enough : goal.put_change-requires-clause-enough
put_change-requires-clause-enough c =
    enough_here c.args.size c.requires.size c.args.plan.now c.args.self.now c.loop-change.self c.loop-change.self c.args.changes.now c.loop-change.change-index c.change-item.result c.change-item.is c.loop-change-test.true c.loop-change.invariant.made c.requires.enough

pub put_change-requires-clause-room : goal.put_change-requires-clause-room
put_change-requires-clause-room c = λ v e absent.
    let room = c.requires.room in
    room_at c.args.size room.0 c.requires.size room.1 c.args.plan.now c.args.changes.now c.args.self.now c.loop-change.self room.2 c.loop-change.change-index c.change-item.result v c.change-item.is e c.loop-change-test.true c.loop-change.invariant.made absent

pub loop-change-preserved : goal.loop-change-preserved
loop-change-preserved c = record {
  made =
      puts_more c.args.size c.requires.size c.args.plan.now c.args.self.now c.loop-change.self c.put_change.new.self c.args.changes.now c.loop-change.change-index c.change-item.result c.change-item.is c.loop-change-test.true c.loop-change.invariant.made c.requires.wide c.requires.enough c.in_ok-put_change.ensures.ok;
  before = c.put_change.ensures.before ∙ c.loop-change.invariant.before;
}
