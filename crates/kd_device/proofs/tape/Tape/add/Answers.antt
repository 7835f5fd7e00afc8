use Rattle.std.proofs.Common.{◌∙◌, ap, sym, arith}
use Rattle.kd_device.specs.Recording.{Recording}
use Rattle.kd_device.proofs.Kept.{added}
use Rattle.kd_device.proofs.tape.Tape.add.Goals as goal

pub invariant_of-self-2 : goal.invariant_of-self-2
invariant_of-self-2 c =
    let s = c.self.inside in let room = c.self.invariant.1 in let is = c.self.view_is ∙ c.requires in
    let end = ap (λ (r : Recording). r.spare_end) is in (
      added s.files.items c.in_ok-file.file c.push.new.self.items s.sent.items s.kept.items s.made.items s.names.items c.in_ok-push.ensures.items (ap (λ (r : Recording). r.events) is)
          (c.in_ok-file.ensures.bytes ∙ sym c.in_ok-file.ensures.start) c.self.invariant.0,
      record {
        for_files = λ i less. omega (arith, end);
        for_made = room.for_made;
        for_kept = room.for_kept;
        for_sent = room.for_sent;
        for_names = room.for_names;
      },
    )
