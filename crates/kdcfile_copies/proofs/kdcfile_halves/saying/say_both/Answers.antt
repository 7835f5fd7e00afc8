use Rattle.std.proofs.Common.{[]}
use Rattle.kd_device.specs.declared.half.Half.TheVariants.{First}
use Rattle.kdcfile_copies.proofs.kdcfile_halves.LineSent.{frame_then, none_sent, reserved, sent, all_sent}
use Rattle.kdcfile_copies.proofs.kdcfile_halves.saying.say_both.Goals as goal

pub returns-in_err-reserve-clause-part : goal.returns-in_err-reserve-clause-part
returns-in_err-reserve-clause-part g c = λ told. (reserved c.args.piece.now _ _ _ _ told c.reserve.ensures.content).part

pub returns-in_err-reserve-clause-unsaid : goal.returns-in_err-reserve-clause-unsaid
returns-in_err-reserve-clause-unsaid g c = λ is told. none_sent c.args.piece.now _ _ _ _ told c.reserve.ensures.content

pub returns-in_err-reserve-clause-stop : goal.returns-in_err-reserve-clause-stop
returns-in_err-reserve-clause-stop g c = λ told. (reserved c.args.piece.now _ _ _ _ told c.reserve.ensures.content).stop

pub returns-in_err-reserve-clause-any_moment : goal.returns-in_err-reserve-clause-any_moment
returns-in_err-reserve-clause-any_moment g c = λ told. (reserved c.args.piece.now _ _ _ _ told c.reserve.ensures.content).any_moment

pub emit-requires : goal.emit-requires
emit-requires g c = λ half. let r = c.in_ok-reserve.ensures.spare half in record { calls = r.calls; bytes = r.bytes }

pub returns-in_err-emit-clause-part : goal.returns-in_err-emit-clause-part
returns-in_err-emit-clause-part g c = λ told. (sent c.args.piece.now _ _ _ _ told c.reserve.ensures.content _ _ c.reserve.ensures.frame _ c.emit.ensures.content).part

pub returns-in_err-emit-clause-stop : goal.returns-in_err-emit-clause-stop
returns-in_err-emit-clause-stop g c = λ told. (sent c.args.piece.now _ _ _ _ told c.reserve.ensures.content _ _ c.reserve.ensures.frame _ c.emit.ensures.content).stop

pub returns-in_err-emit-clause-any_moment : goal.returns-in_err-emit-clause-any_moment
returns-in_err-emit-clause-any_moment g c = λ told. (sent c.args.piece.now _ _ _ _ told c.reserve.ensures.content _ _ c.reserve.ensures.frame _ c.emit.ensures.content).any_moment

pub returns-in_err-emit-clause-frame : goal.returns-in_err-emit-clause-frame
returns-in_err-emit-clause-frame g c = frame_then _ _ _ c.reserve.ensures.frame c.emit.ensures.frame

pub returns-clause-sent : goal.returns-clause-sent
returns-clause-sent g c = λ told. all_sent c.args.piece.now _ _ _ _ told c.reserve.ensures.content (g.T.Twin.both c.emit.new.self) c.reserve.ensures.frame (λ now. (c.in_ok-emit.ensures.content now First []).sent)

pub returns-clause-part : goal.returns-clause-part
returns-clause-part g c = λ told. (sent c.args.piece.now _ _ _ _ told c.reserve.ensures.content _ _ c.reserve.ensures.frame _ c.emit.ensures.content).part

pub returns-clause-stop : goal.returns-clause-stop
returns-clause-stop g c = λ told. (sent c.args.piece.now _ _ _ _ told c.reserve.ensures.content _ _ c.reserve.ensures.frame _ c.emit.ensures.content).stop

pub returns-clause-any_moment : goal.returns-clause-any_moment
returns-clause-any_moment g c = λ told. (sent c.args.piece.now _ _ _ _ told c.reserve.ensures.content _ _ c.reserve.ensures.frame _ c.emit.ensures.content).any_moment

pub returns-clause-frame : goal.returns-clause-frame
returns-clause-frame g c = frame_then _ _ _ c.reserve.ensures.frame c.emit.ensures.frame
