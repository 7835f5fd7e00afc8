use Rattle.std.proofs.Common.{List, ℕ, ap, sym, subst, Err}
use Rattle.kd_device.specs.declared.error.DeviceError.{DeviceError}
use Rattle.kd_device.specs.declared.half.Half.TheVariants.{First}
use Rattle.device_acts.specs.ErrorsLaws.{no_error}
use Rattle.carry_cli.specs.Promise.{AreLinesOf}
use Rattle.carry_cli.proofs.Ending.{all_sent, line_failed, line_memory, memory_not_failed}
use Rattle.carry_cli.proofs.state.state.Goals as goal

pub returns-in-Ok-say_both-clause-ends : goal.returns-in-Ok-say_both-clause-ends
returns-in-Ok-say_both-clause-ends g c =
    let r = g.R.Room.room c.args.room.now in
    let a = g.T.Twin.both c.args.twin.now in
    all_sent c.args.base.now r c.args.there a (g.T.Twin.both c.lines_for.new.twin) (g.T.Twin.leaves c.args.twin.now) (g.T.Twin.leaves c.lines_for.new.twin) c.lines_for.ensures.rests c.lines_for.ensures.names c.lines_for.ensures.frame (c.in-Ok.ensures.fine (no_error _ _)) c.deref.result.now
    (λ known told. subst (λ (l : List ℕ). AreLinesOf c.args.base.now r c.args.there a.first.holds a.second.holds l) (sym c.deref.ensures.value) (c.in-Ok.ensures.lines known told)) (g.T.Twin.both c.say_both.new.twin) c.say_both.ensures.disks (c.say_both.ensures.frame First) c.say_both.ensures.part
    c.in-Ok-say_both.ensures.sent (c.in-Ok-say_both.ensures.fine (no_error _ _))

pub returns-in-Err-Failed-say_both-clause-ends : goal.returns-in-Err-Failed-say_both-clause-ends
returns-in-Err-Failed-say_both-clause-ends g c =
    let r = g.R.Room.room c.args.room.now in
    let a = g.T.Twin.both c.args.twin.now in
    line_failed c.args.base.now r c.args.there a (g.T.Twin.both c.lines_for.new.twin) (g.T.Twin.leaves c.args.twin.now) (g.T.Twin.leaves c.lines_for.new.twin) c.lines_for.ensures.rests c.lines_for.ensures.names c.lines_for.ensures.frame (c.in-Ok.ensures.fine (no_error _ _)) c.deref.result.now
    (λ known told. subst (λ (l : List ℕ). AreLinesOf c.args.base.now r c.args.there a.first.holds a.second.holds l) (sym c.deref.ensures.value) (c.in-Ok.ensures.lines known told)) (g.T.Twin.both c.say_both.new.twin) c.say_both.ensures.disks (c.say_both.ensures.frame First) c.say_both.ensures.part
    (c.in-Err-Failed-say_both.ensures.failed (ap (λ (e : DeviceError). Err e) c.in-Err-Failed-say_both.field-0-is))

pub returns-clause-ends : goal.returns-clause-ends
returns-clause-ends g c =
    let r = g.R.Room.room c.args.room.now in
    let a = g.T.Twin.both c.args.twin.now in
    line_memory c.args.base.now r c.args.there a (g.T.Twin.both c.lines_for.new.twin) (g.T.Twin.leaves c.args.twin.now) (g.T.Twin.leaves c.lines_for.new.twin) c.lines_for.ensures.rests c.lines_for.ensures.names c.lines_for.ensures.frame (c.in-Ok.ensures.fine (no_error _ _)) c.deref.result.now
    (λ known told. subst (λ (l : List ℕ). AreLinesOf c.args.base.now r c.args.there a.first.holds a.second.holds l) (sym c.deref.ensures.value) (c.in-Ok.ensures.lines known told)) (g.T.Twin.both c.say_both.new.twin) c.say_both.ensures.disks (c.say_both.ensures.frame First) c.say_both.ensures.part
    (c.in-Err-Memory-say_both.ensures.fine (memory_not_failed _ _ c.in-Err-Memory-say_both.field-0-is))
