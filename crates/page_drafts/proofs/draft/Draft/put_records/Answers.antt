use Rattle.std.proofs.Common.{◌≡◌, ℕ, List, subst}
use Rattle.page_drafts.specs.Drafting.{put_in}
use Rattle.page_drafts.specs.Tables.{IsPlaceFor}
use Rattle.page_drafts.specs.WholeLaws.{enough_for, room_for, one_more}
use Rattle.page_drafts.proofs.draft.Draft.put_records.Goals as goal

pub put-requires-clause-enough : goal.put-requires-clause-enough
put-requires-clause-enough c =
    rw c.as_slice.ensures
    (enough_for c.args.size c.requires.size c.args.plan.now c.args.records.now c.args.self.now c.loop-record.self c.loop-record.record-index c.record-item.result c.record-item.is c.loop-record-test.true c.loop-record.invariant c.requires.enough)

pub put-requires-clause-room : goal.put-requires-clause-room
put-requires-clause-room c =
    let room = c.requires.room in
    room_for c.args.size c.requires.size c.args.plan.now c.args.records.now c.args.self.now c.loop-record.self c.loop-record.record-index c.record-item.result c.record-item.is c.loop-record-test.true c.loop-record.invariant room.0 room.1 room.2

pub loop-record-preserved : goal.loop-record-preserved
loop-record-preserved c =
    let d = c.loop-record.self in
    let k = c.record-item.result.0 in
    let step = subst (λ (v : List ℕ). (s : ℕ) × IsPlaceFor k s d.layout.slots × (c.put.new.self ≡ put_in c.args.size c.args.plan.now k v s d)) c.as_slice.ensures c.in_ok-put.ensures.ok in
    one_more c.args.size c.requires.size c.args.plan.now c.args.records.now c.args.self.now d c.loop-record.record-index c.record-item.result c.record-item.is c.loop-record-test.true c.loop-record.invariant c.requires.enough c.requires.records c.put.new.self step
