use Rattle.std.proofs.Common.{◌∙◌, take, length, ap, sym, subst, arith, List}
use Rattle.std.proofs.lemmas.List.{take_all}
use Rattle.kd_device.specs.declared.call.Call.{Call}
use Rattle.kd_device.specs.History.{Disk, Moment, StopLeaves, after}
use Rattle.kd_device.specs.Recording.{events}
use Rattle.kd_device.proofs.Replay.{inside_at, after_more, done_at}
use Rattle.kd_device.proofs.stop.image_after.Goals as goal

pub advance_if-requires : goal.advance_if-requires
advance_if-requires c = inside_at (length c.args.kept.now) c.args.calls.now c.loop-call.call-index _ c.requires c.loop-call-test.true

pub loop-call-preserved : goal.loop-call-preserved
loop-call-preserved c =
    let a = c.args in let i = c.loop-call.invariant in let e = c.in_ok-advance_if.ensures in
    let more = λ (s : Moment). after_more a.disk s a.kept.now a.calls.now c.loop-call.call-index _ c.loop-call-test.true in
    let before = λ (s : Moment). (after s (events a.kept.now (take c.loop-call.call-index a.calls.now))).disk a.disk in
    record {
      bytes = λ s is. e.bytes (before s) (i.bytes s is) ∙ ap (λ (d : Disk). d.bytes) (sym (more s));
      image = λ s is. subst (λ (d : Disk). StopLeaves d c.advance_if.new.image.items) (sym (more s)) (e.image (before s) (i.bytes s is) (i.image s is));
      zero = λ is. c.next_digits-digits.ensures.old is (i.zero is);
      one = λ is. c.next_digits-digits.ensures.new is (i.one is);
      old = λ zero s is. e.old (before s) (c.part_of-part.ensures.old (i.zero zero)) (i.bytes s is) (i.old zero s is) ∙ ap (λ (d : Disk). d.base) (sym (more s));
      new = λ one all. e.new (c.part_of-part.ensures.new (i.one one)) (done_at a.kept.now a.calls.now c.loop-call.call-index _ all c.loop-call-test.true) (i.new one all);
    }

pub returns-clause-image : goal.returns-clause-image
returns-clause-image c = λ s is.
    let a = c.args in let l = c.loop-call in
    subst (λ (x : List Call). StopLeaves ((after s (events a.kept.now x)).disk a.disk) l.image.items) (take_all l.call-index a.calls.now (omega arith)) (l.invariant.image s is)

pub returns-clause-old : goal.returns-clause-old
returns-clause-old c = λ zero s is.
    let a = c.args in let l = c.loop-call in
    l.invariant.old zero s is ∙ ap (λ (x : List Call). ((after s (events a.kept.now x)).disk a.disk).base) (take_all l.call-index a.calls.now (omega arith))

pub returns-clause-new : goal.returns-clause-new
returns-clause-new c = λ one done s is.
    let a = c.args in let l = c.loop-call in
    l.invariant.new one done ∙ l.invariant.bytes s is ∙ ap (λ (x : List Call). ((after s (events a.kept.now x)).disk a.disk).bytes) (take_all l.call-index a.calls.now (omega arith))
