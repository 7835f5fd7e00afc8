use Rattle.std.proofs.Common.{◌≡◌, ap, refl, subst, sym}
use Rattle.std.proofs.lemmas.Result.{IfOk-weaker}
use Rattle.kd_device.specs.History.{StopLeaves, at_first}
use Rattle.kd_device.specs.Recording.{Recording, disk_at, moment_at}
use Rattle.kd_device.specs.Memory.{Memory, OfOne, unused, state_of, leaves_of}
use Rattle.kd_device.proofs.Replay.{rest_left}
use Rattle.kd_device.proofs.mem_device.MemDevice.after_stop.Goals as goal

pub returns-clause-image : goal.returns-clause-image
returns-clause-image c =
    let r = c.args.self.now.recording in let call = c.args.call in let a = c.in_ok-image.image in
    let same : c.self.inside.tape ≡ r = ap (λ (m : Memory). m.recording) c.self.view_is in
    let stands = subst (λ (x : Recording). StopLeaves (disk_at 0 call x) a) same c.in_ok-image.ensures.image in
    IfOk-weaker c.new-2.result (λ m. m ≡ unused a c.new.result.items) _
    (λ m v.
    subst (λ (x : Memory). leaves_of c.args.self.now call (state_of x).holds (moment_at call r).sent) (sym v) (rest_left (OfOne a) call (at_first r.starts) r.events (moment_at call r).sent c.requires (stands, refl)))
    c.new-2.ensures.value
