use Rattle.std.proofs.Common.{sym, ◌∙◌}
use Rattle.std.specs.Prelude.{IsTrue}
use Rattle.call_parts.proofs.TextsSaid.{handed_room, script_there, were_read}
use Rattle.call_parts.proofs.reading.room_texts.Goals as goal

pub returns-in_err-third-clause-sure : goal.returns-in_err-third-clause-sure
returns-in_err-third-clause-sure g c = λ sure d u s there is.
    let r = g.R.Room.room c.args.room.now in
    let l = g.R.Room.room c.text-2.new.room in
    c.in_err-third.ensures.sure (rw c.text-2.ensures.same.sure (rw c.text.ensures.same.sure sure)) s (script_there c.args.word c.args.base.now l r s (sym c.text.ensures.same.texts ∙ sym c.text-2.ensures.same.texts) there.script_is)
    (handed_room _ _ c.from_residual-in_err-third.result c.in_err-third.field-0.0 c.from_residual-in_err-third.ensures.1 is)

pub returns-clause-read : goal.returns-clause-read
returns-clause-read g c = λ told.
    let r = g.R.Room.room c.args.room.now in
    let k = g.R.Room.room c.text.new.room in
    let l = g.R.Room.room c.text-2.new.room in
    let told_k : IsTrue k.told = rw c.text.ensures.same.told told in
    let told_l : IsTrue l.told = rw c.text-2.ensures.same.told told_k in
    were_read c.args.word c.requires c.args.base.now r k l _ _ _ c.text.ensures.same.texts c.text-2.ensures.same.texts (c.in_ok-definition.ensures.value told) (c.in_ok-units.ensures.value told_k) (c.in_ok-third.ensures.value told_l)
