use Rattle.std.proofs.Common.{[], ap, refl, sym, arith}
use Rattle.std.proofs.lemmas.List.{append-nil}
use Rattle.kd_device.specs.History.{Synced, at_first, after}
use Rattle.kd_device.specs.declared.call.Call.TheVariants.{Sync}
use Rattle.kd_device.specs.Recording.{Recording, events, starts_of}
use Rattle.kd_device.proofs.Kept.{kept_push, made_synced}
use Rattle.kd_device.proofs.tape.Tape.synced.Goals as goal

pub invariant_of-self : goal.invariant_of-self
invariant_of-self c =
    let s = c.self.inside in let a = c.args in let k = c.self.invariant.0 in let room = c.self.invariant.1 in
    let calls = ap (λ (r : Recording). r.spare_calls) c.self.view_is in
    let now = after (at_first (starts_of s.files.items)) (events s.kept.items s.made.items) in (
      kept_push s.kept.items [] s.made.items s.names.items s.kept.items (sym (append-nil s.kept.items)) k.inside k.fit
          (Sync a.disk a.done) (Synced a.disk a.done) c.put.new.to.items c.put.ensures.items refl
          s.files.items s.files.items s.sent.items s.sent.items refl tt (made_synced s.files.items s.sent.items now a.disk a.done k.made),
      record {
        for_files = room.for_files;
        for_made = omega (arith, room.for_made, calls, c.requires, c.put.ensures.len, c.put.ensures.capacity);
        for_kept = room.for_kept;
        for_sent = room.for_sent;
        for_names = omega (arith, room.for_names, calls, c.requires);
      },
    )
