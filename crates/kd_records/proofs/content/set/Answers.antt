use Rattle.kd_records.proofs.Placed.{set_over, insert_new}
use Rattle.std.proofs.Common.{◌∙◌, refl}
use Rattle.kd_records.proofs.content.set.Goals as goal

pub returns-then-has_key_at-clause-ok : goal.returns-then-has_key_at-clause-ok
returns-then-has_key_at-clause-ok c =
    set_over c.args.key c.args.value c.args.records.now.items _ _ _ _ _ _ refl c.deref.ensures.value c.deref-2.ensures.value c.lesser_in_front-place.ensures.lesser c.has_key_at.ensures.key
    c.if-has_key_at.true c.index_mut-record.ensures.value

pub returns-in_ok-insert-clause-ok : goal.returns-in_ok-insert-clause-ok
returns-in_ok-insert-clause-ok c =
    c.in_ok-insert.ensures.items
    ∙ insert_new c.args.key c.args.value c.args.records.now.items _ _ _ _ _ refl c.deref.ensures.value c.deref-2.ensures.value c.lesser_in_front-place.ensures.lesser c.has_key_at.ensures.key
    c.if-has_key_at.false
