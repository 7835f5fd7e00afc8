use Rattle.std.proofs.Common.{arith, sym, subst}
use Rattle.std.specs.Prelude.{IsTrue}
use Rattle.kd_device.specs.declared.half.Half.TheVariants.{First, Second}
use Rattle.kdcfile_double.specs.MakingLaws.{rests_then}
use Rattle.call_parts.proofs.twin.opening.Attached.{quiet_rests, reserved_frame, reserved_none_rose}
use Rattle.call_parts.proofs.twin.opening.attach_half.Goals as goal

pub returns-in_err-reserve-clause-rests : goal.returns-in_err-reserve-clause-rests
returns-in_err-reserve-clause-rests g c = λ told.
    quiet_rests First (g.T.Twin.both c.args.twin.now) (g.T.Twin.both c.reserve.new.self) (g.T.Twin.leaves c.args.twin.now) (g.T.Twin.leaves c.reserve.new.self) (c.reserve.ensures.content told First) (c.reserve.ensures.disk Second)

pub returns-in_err-reserve-clause-fine : goal.returns-in_err-reserve-clause-fine
returns-in_err-reserve-clause-fine g c = λ none. reserved_none_rose (g.T.Twin.both c.args.twin.now) (g.T.Twin.both c.reserve.new.self) c.reserve.ensures.disk c.reserve.ensures.line

pub returns-in_err-reserve-clause-frame : goal.returns-in_err-reserve-clause-frame
returns-in_err-reserve-clause-frame g c = reserved_frame (g.T.Twin.both c.args.twin.now) (g.T.Twin.both c.reserve.new.self) (c.reserve.ensures.frame First) (c.reserve.ensures.disk Second)

pub attach-requires : goal.attach-requires
attach-requires g c = let room = c.in_ok-reserve.ensures.spare c.args.half in record { calls = room.calls; bytes = omega (arith, room.bytes, c.len.ensures, c.deref.ensures.len) }

pub returns-in_err-attach-clause-rests : goal.returns-in_err-attach-clause-rests
returns-in_err-attach-clause-rests g c = λ told.
    let a = g.T.Twin.both c.args.twin.now in
    let b = g.T.Twin.both c.reserve.new.self in
    let e = g.T.Twin.both c.attach.new.self in
    let la = g.T.Twin.leaves c.args.twin.now in
    let lb = g.T.Twin.leaves c.reserve.new.self in
    let le = g.T.Twin.leaves c.attach.new.self in
    let told_b : IsTrue b.told = subst IsTrue (sym (c.reserve.ensures.frame First).told) told in
    rests_then a b la lb (quiet_rests First a b la lb (c.reserve.ensures.content told First) (c.reserve.ensures.disk Second)) e le (quiet_rests c.args.half b e lb le (c.attach.ensures.content told_b) c.attach.ensures.other_half)

pub returns-clause-rests : goal.returns-clause-rests
returns-clause-rests g c = λ told.
    let a = g.T.Twin.both c.args.twin.now in
    let b = g.T.Twin.both c.reserve.new.self in
    let e = g.T.Twin.both c.attach.new.self in
    let la = g.T.Twin.leaves c.args.twin.now in
    let lb = g.T.Twin.leaves c.reserve.new.self in
    let le = g.T.Twin.leaves c.attach.new.self in
    let told_b : IsTrue b.told = subst IsTrue (sym (c.reserve.ensures.frame First).told) told in
    rests_then a b la lb (quiet_rests First a b la lb (c.reserve.ensures.content told First) (c.reserve.ensures.disk Second)) e le (quiet_rests c.args.half b e lb le (c.attach.ensures.content told_b) c.attach.ensures.other_half)
