use Rattle.std.proofs.Common.{◌<◌, length, ap, refl, sym, arith}
use Rattle.kd_device.specs.Recording.{FileNow}
use Rattle.kd_device.proofs.Kept.{reserved_one, room_one}
use Rattle.kd_device.proofs.file.reserve_all.Goals as goal

pub loop-i-preserved : goal.loop-i-preserved
loop-i-preserved c =
    let l = c.loop-i in let f = c.index_mut-file.result.now in let f' = c.reserve.new.self in let was = sym c.index_mut-file.ensures.value in let e = c.in_ok-reserve.ensures.ok in
    let lt : l.i < length l.files.items = omega (arith, c.loop-i-test.true, l.invariant.same.count, c.len-i-end.ensures, c.args.files.now.ok.0, c.loop-i.auto.i-end) in
    let start = ap (λ (x : FileNow). x.start) e in let bytes = ap (λ (x : FileNow). x.bytes) e in
    record {
      same = reserved_one c.args.files.now.items l.files.items _ l.i f f' l.invariant.same refl was lt start bytes (omega (arith, ap (λ (x : FileNow). x.end) e));
      room = room_one c.args.files.now.items l.files.items _ l.i f f' l.invariant.same refl was lt start bytes (omega (arith, ap (λ (x : FileNow). x.end) e)) c.args.end (omega (arith, ap (λ (x : FileNow). x.end) e)) l.invariant.room;
    }

pub returns-in_err-reserve-clause-same : goal.returns-in_err-reserve-clause-same
returns-in_err-reserve-clause-same c =
    let l = c.loop-i in let f = c.index_mut-file.result.now in let f' = c.reserve.new.self in let was = sym c.index_mut-file.ensures.value in let e = c.in_err-reserve.ensures.err in
    let lt : l.i < length l.files.items = omega (arith, c.loop-i-test.true, l.invariant.same.count, c.len-i-end.ensures, c.args.files.now.ok.0, c.loop-i.auto.i-end) in
    reserved_one c.args.files.now.items l.files.items _ l.i f f' l.invariant.same refl was lt (ap (λ (x : FileNow). x.start) e) (ap (λ (x : FileNow). x.bytes) e) (omega (arith, ap (λ (x : FileNow). x.end) e))
