use Rattle.std.proofs.Common.{ap, arith, take}
use Rattle.kd_device.specs.Recording.{Recording}
use Rattle.kd_device.proofs.Kept.{named_push, names_are, events_stay, last_piece, behind_fits}
use Rattle.kd_device.proofs.tape.Tape.named.Goals as goal

pub invariant_of-self : goal.invariant_of-self
invariant_of-self c =
    let s = c.self.inside in let a = c.args in let k = c.self.invariant.0 in let room = c.self.invariant.1 in let put = c.keep-span in
    let calls = ap (λ (r : Recording). r.spare_calls) c.self.view_is in
    let bytes = ap (λ (r : Recording). r.spare_bytes) c.self.view_is in (
      named_push s.kept.items (take put.result.len a.name.now) s.made.items s.names.items put.new.kept.items put.ensures.items k.inside k.fit a.disk a.name.now put.result c.put.new.to.items c.put.ensures.items
          (last_piece s.kept.items a.name.now put.result put.ensures.span) (behind_fits s.kept.items a.name.now put.result put.ensures.span) s.files.items s.sent.items k.made,
      record {
        for_files = room.for_files;
        for_made = omega (arith, room.for_made, calls, c.requires.calls);
        for_kept = omega (arith, room.for_kept, bytes, c.requires.bytes, put.ensures.len, put.ensures.capacity);
        for_sent = omega (arith, room.for_sent, bytes, c.requires.bytes);
        for_names = omega (arith, room.for_names, calls, c.requires.calls, c.put.ensures.len, c.put.ensures.capacity);
      },
    )

pub returns : goal.returns
returns c =
    let s = c.self.inside in let a = c.args in let k = c.self.invariant.0 in let put = c.keep-span in
    rw (← c.self.view_is) (rw (
      events_stay s.kept.items (take put.result.len a.name.now) s.made.items s.names.items put.new.kept.items put.ensures.items k.inside k.fit,
      names_are s.kept.items (take put.result.len a.name.now) s.made.items s.names.items put.new.kept.items put.ensures.items k.inside k.fit a.disk a.name.now put.result c.put.new.to.items c.put.ensures.items
          (last_piece s.kept.items a.name.now put.result put.ensures.span) (behind_fits s.kept.items a.name.now put.result put.ensures.span),
    ))
