use Rattle.std.proofs.Common.{List, ℕ, take, ap, refl, arith}
use Rattle.kd_device.specs.History.{Emitted, at_first, after}
use Rattle.kd_device.specs.declared.call.Call.TheVariants.{Emit}
use Rattle.kd_device.specs.Recording.{Recording, events, starts_of}
use Rattle.kd_device.proofs.Kept.{kept_push, made_sent, events_are, names_stay, last_piece, behind_fits}
use Rattle.kd_device.proofs.tape.Tape.emitted.Goals as goal

pub invariant_of-self : goal.invariant_of-self
invariant_of-self c =
    let s = c.self.inside in let a = c.args in let k = c.self.invariant.0 in let room = c.self.invariant.1 in let put = c.keep-span in
    let calls = ap (λ (r : Recording). r.spare_calls) c.self.view_is in
    let bytes = ap (λ (r : Recording). r.spare_bytes) c.self.view_is in
    let now = after (at_first (starts_of s.files.items)) (events s.kept.items s.made.items) in (
      kept_push s.kept.items (take put.result.len a.piece.now) s.made.items s.names.items put.new.kept.items put.ensures.items k.inside k.fit
          (Emit put.result a.done) (Emitted a.piece.now a.done) c.put.new.to.items c.put.ensures.items (ap (λ (l : List ℕ). Emitted l a.done) (last_piece s.kept.items a.piece.now put.result put.ensures.span))
          s.files.items s.files.items s.sent.items c.append_if.new.to.items refl (rw put.ensures.items (behind_fits s.kept.items a.piece.now put.result put.ensures.span))
          (made_sent s.files.items s.sent.items c.append_if.new.to.items now a.piece.now a.done k.made c.append_if.ensures.items),
      record {
        for_files = room.for_files;
        for_made = omega (arith, room.for_made, calls, c.requires.calls, c.put.ensures.len, c.put.ensures.capacity);
        for_kept = omega (arith, room.for_kept, bytes, c.requires.bytes, put.ensures.len, put.ensures.capacity);
        for_sent = omega (arith, room.for_sent, bytes, c.requires.bytes, c.append_if.ensures.len, c.append_if.ensures.capacity);
        for_names = omega (arith, room.for_names, calls, c.requires.calls);
      },
    )

pub returns : goal.returns
returns c =
    let s = c.self.inside in let a = c.args in let k = c.self.invariant.0 in let put = c.keep-span in
    rw (← c.self.view_is) (rw (
      names_stay s.kept.items (take put.result.len a.piece.now) s.made.items s.names.items put.new.kept.items put.ensures.items k.inside k.fit,
      events_are s.kept.items (take put.result.len a.piece.now) s.made.items s.names.items put.new.kept.items put.ensures.items k.inside k.fit (Emit put.result a.done) (Emitted a.piece.now a.done) c.put.new.to.items c.put.ensures.items
          (ap (λ (l : List ℕ). Emitted l a.done) (last_piece s.kept.items a.piece.now put.result put.ensures.span)),
    ))
