use Rattle.std.proofs.Common.{◌∙◌, ◌≡◌, ◌+◌, List, subst, min, length, ap, ℕ}
use Rattle.kd_device.specs.Device.{Torn}
use Rattle.kd_device.specs.Recording.{piece}
use Rattle.kd_device.proofs.Replay.{torn_step}
use Rattle.kd_device.proofs.stop.advance.Goals as goal

pub returns-in_ok-write_if-in-Write-clause-image : goal.returns-in_ok-write_if-in-Write-clause-image
returns-in_ok-write_if-in-Write-clause-image c = λ s same torns.
    let w = c.in-Write in
    let first : c.min-first.result ≡ min w.at (length c.args.bytes.now.items) = c.min-first.ensures ∙ ap (λ (n : ℕ). min w.at n) (c.len.ensures ∙ c.args.bytes.now.ok.0) in
    rw w.is (torn_step s w.at (w.at + length (piece c.args.kept.now w.span)) c.min-first.result c.args.bytes.now.items c.args.image.now.items c.tear.new.image.items same first torns
    (subst (λ (l : List ℕ). Torn c.min-first.result (w.at + length l) c.args.image.now.items c.tear.new.image.items) (c.deref.ensures.value ∙ c.in_ok-new-in-Write.ensures) c.in_ok-tear-in-Write.ensures.torn))
