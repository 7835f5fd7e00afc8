use Rattle.std.proofs.Common.{◌<◌, List, ℕ, take, ap, refl, sym, arith, length}
use Rattle.std.proofs.lemmas.List.{length-map}
use Rattle.kd_device.specs.History.{Wrote, at_first, after}
use Rattle.kd_device.specs.declared.call.Call.TheVariants.{Write}
use Rattle.kd_device.specs.Recording.{FileNow, Recording, events, starts_of}
use Rattle.kd_device.proofs.Kept.{kept_push, made_wrote, starts_stay, room_stays, end_at, events_are, names_stay, last_piece, behind_fits}
use Rattle.kd_device.proofs.tape.Tape.wrote.Goals as goal

pub write-requires : goal.write-requires
write-requires c =
    let s = c.self.inside in let a = c.args in let f = c.index_mut-file.result.now in
    let lt : a.disk < length s.files.items = omega (arith, c.requires.disk, ap (λ (r : Recording). length r.starts) c.self.view_is, length-map s.files.items (λ (x : FileNow). x.start)) in
    omega (arith, c.requires.inside, c.self.invariant.1.for_files a.disk lt, end_at s.files.items a.disk f lt (sym c.index_mut-file.ensures.value), ap (λ (r : Recording). r.spare_end) c.self.view_is)

pub invariant_of-self : goal.invariant_of-self
invariant_of-self c =
    let s = c.self.inside in let a = c.args in let k = c.self.invariant.0 in let room = c.self.invariant.1 in let put = c.keep-span in
    let f = c.index_mut-file.result.now in let f' = c.write.new.self in let was = sym c.index_mut-file.ensures.value in
    let start = ap (λ (x : FileNow). x.start) c.write.ensures in let end = ap (λ (x : FileNow). x.end) c.write.ensures in
    let lt : a.disk < length s.files.items = omega (arith, c.requires.disk, ap (λ (r : Recording). length r.starts) c.self.view_is, length-map s.files.items (λ (x : FileNow). x.start)) in
    let calls = ap (λ (r : Recording). r.spare_calls) c.self.view_is in
    let bytes = ap (λ (r : Recording). r.spare_bytes) c.self.view_is in
    let now = after (at_first (starts_of s.files.items)) (events s.kept.items s.made.items) in (
      kept_push s.kept.items (take put.result.len a.bytes.now) s.made.items s.names.items put.new.kept.items put.ensures.items k.inside k.fit
          (Write a.disk a.at put.result a.done) (Wrote a.disk a.at a.bytes.now a.done) c.put.new.to.items c.put.ensures.items (ap (λ (l : List ℕ). Wrote a.disk a.at l a.done) (last_piece s.kept.items a.bytes.now put.result put.ensures.span))
          s.files.items _ s.sent.items s.sent.items (starts_stay s.files.items a.disk f f' _ refl was lt start end) (rw put.ensures.items (behind_fits s.kept.items a.bytes.now put.result put.ensures.span))
          (made_wrote s.files.items a.disk f f' _ refl was lt start end s.sent.items now a.at a.bytes.now a.done k.made (ap (λ (x : FileNow). x.bytes) c.write.ensures)),
      record {
        for_files = room_stays s.files.items a.disk f f' _ refl was lt start end s.spare_end room.for_files;
        for_made = omega (arith, room.for_made, calls, c.requires.calls, c.put.ensures.len, c.put.ensures.capacity);
        for_kept = omega (arith, room.for_kept, bytes, c.requires.bytes, put.ensures.len, put.ensures.capacity);
        for_sent = omega (arith, room.for_sent, bytes, c.requires.bytes);
        for_names = omega (arith, room.for_names, calls, c.requires.calls);
      },
    )

pub returns : goal.returns
returns c =
    let s = c.self.inside in let a = c.args in let k = c.self.invariant.0 in let put = c.keep-span in
    let f = c.index_mut-file.result.now in let f' = c.write.new.self in let was = sym c.index_mut-file.ensures.value in
    let lt : a.disk < length s.files.items = omega (arith, c.requires.disk, ap (λ (r : Recording). length r.starts) c.self.view_is, length-map s.files.items (λ (x : FileNow). x.start)) in
    rw (← c.self.view_is) (rw (
      starts_stay s.files.items a.disk f f' _ refl was lt (ap (λ (x : FileNow). x.start) c.write.ensures) (ap (λ (x : FileNow). x.end) c.write.ensures),
      names_stay s.kept.items (take put.result.len a.bytes.now) s.made.items s.names.items put.new.kept.items put.ensures.items k.inside k.fit,
      events_are s.kept.items (take put.result.len a.bytes.now) s.made.items s.names.items put.new.kept.items put.ensures.items k.inside k.fit (Write a.disk a.at put.result a.done) (Wrote a.disk a.at a.bytes.now a.done) c.put.new.to.items c.put.ensures.items
          (ap (λ (l : List ℕ). Wrote a.disk a.at l a.done) (last_piece s.kept.items a.bytes.now put.result put.ensures.span)),
    ))
