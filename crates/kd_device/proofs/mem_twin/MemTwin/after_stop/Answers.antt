use Rattle.std.proofs.Common.{◌≡◌, ap, refl, subst, sym}
use Rattle.std.proofs.lemmas.Result.{IfOk-weaker}
use Rattle.kd_device.specs.History.{StopLeaves, at_first}
use Rattle.kd_device.specs.Recording.{Recording, disk_at, moment_at}
use Rattle.kd_device.specs.Memory.{OfBoth}
use Rattle.kd_device.specs.TwinMemory.{TwinMemory, unused, both_of, both_left}
use Rattle.kd_device.proofs.Replay.{rest_left}
use Rattle.kd_device.proofs.mem_twin.MemTwin.after_stop.Goals as goal

pub returns-clause-image : goal.returns-clause-image
returns-clause-image c =
    let r = c.args.self.now.recording in let call = c.args.call in let a = c.in_ok-first.first in let b = c.in_ok-second.second in
    let same : c.self.inside.tape ≡ r = ap (λ (m : TwinMemory). m.recording) c.self.view_is in
    let first = subst (λ (x : Recording). StopLeaves (disk_at 0 call x) a) same c.in_ok-first.ensures.image in
    let second = subst (λ (x : Recording). StopLeaves (disk_at 1 call x) b) same c.in_ok-second.ensures.image in
    IfOk-weaker c.new-2.result (λ m. m ≡ unused a b c.new.result.items) _
    (λ m v.
    subst (λ (x : TwinMemory). both_left c.args.self.now call (both_of x).first.holds (both_of x).second.holds (moment_at call r).sent) (sym v)
    (rest_left (OfBoth a b) call (at_first r.starts) r.events (moment_at call r).sent c.requires ((first, second), refl)))
    c.new-2.ensures.value
