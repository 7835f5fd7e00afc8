use Rattle.std.proofs.Common.{◌∙◌, List, ℕ, subst}
use Rattle.std.specs.Prelude.{IsTrue}
use Rattle.device_acts.specs.Said.{Said}
use Rattle.call_parts.specs.Asking.{looking_errand}
use Rattle.utm_cli.specs.Parts.{looked_by}
use Rattle.utm_cli.proofs.ByWord.{looked_front, none_front}
use Rattle.utm_cli.proofs.Ran.{said_then}
use Rattle.utm_cli.proofs.Refused.{open_refused}
use Rattle.utm_cli.proofs.run.look_over.Goals as goal

pub returns-in_err-tables-clause-refused : goal.returns-in_err-tables-clause-refused
returns-in_err-tables-clause-refused g c = λ r is told.
    open_refused _ _ c.from_residual.result c.in_err-tables.field-0.0 r c.from_residual.ensures.1 is (looking_errand c.args.work c.args.looking) (g.D.Device.state c.args.device.now).holds (λ none. c.in_err-tables.ensures.refused none told) (λ stored other. c.in_err-tables.ensures.other stored other told)

pub returns-in_err-tables-clause-front : goal.returns-in_err-tables-clause-front
returns-in_err-tables-clause-front g c = λ told t opens. none_front (looked_by c.args.looking (looking_errand c.args.work c.args.looking) t) _ _ _ _ (c.look.ensures.rests told)

pub returns-in_err-lines-clause-front : goal.returns-in_err-lines-clause-front
returns-in_err-lines-clause-front g c = λ told t opens. none_front (looked_by c.args.looking (looking_errand c.args.work c.args.looking) t) _ _ _ _ (c.look.ensures.rests told)

pub returns-in_err-say-clause-front : goal.returns-in_err-say-clause-front
returns-in_err-say-clause-front g c = λ told t opens.
    let told_b : IsTrue (g.D.Device.state c.look.new.device).told = rw c.look.ensures.frame.told told in
    looked_front (looked_by c.args.looking (looking_errand c.args.work c.args.looking)) (looking_errand c.args.work c.args.looking) c.in_ok-tables.tables t c.as_slice.result.now (c.as_slice.ensures ∙ c.in_ok-lines.ensures.lines) (g.D.Device.state c.args.device.now) (g.D.Device.state c.look.new.device) (g.D.Device.state c.say.new.device) (g.D.Device.leaves c.args.device.now) (g.D.Device.leaves c.look.new.device) (g.D.Device.leaves c.say.new.device)
    (c.look.ensures.rests told) (c.in_ok-tables.ensures.starts told) opens (c.say.ensures.part told_b) (c.say.ensures.any_moment told_b)

pub returns-clause-front : goal.returns-clause-front
returns-clause-front g c = λ told t opens.
    let told_b : IsTrue (g.D.Device.state c.look.new.device).told = rw c.look.ensures.frame.told told in
    looked_front (looked_by c.args.looking (looking_errand c.args.work c.args.looking)) (looking_errand c.args.work c.args.looking) c.in_ok-tables.tables t c.as_slice.result.now (c.as_slice.ensures ∙ c.in_ok-lines.ensures.lines) (g.D.Device.state c.args.device.now) (g.D.Device.state c.look.new.device) (g.D.Device.state c.say.new.device) (g.D.Device.leaves c.args.device.now) (g.D.Device.leaves c.look.new.device) (g.D.Device.leaves c.say.new.device)
    (c.look.ensures.rests told) (c.in_ok-tables.ensures.starts told) opens (c.say.ensures.part told_b) (c.say.ensures.any_moment told_b)

pub returns-clause-done : goal.returns-clause-done
returns-clause-done g c = λ told.
    let told_b : IsTrue (g.D.Device.state c.look.new.device).told = rw c.look.ensures.frame.told told in (
      c.in_ok-tables.tables,
      c.in_ok-tables.ensures.starts told,
      subst (λ (l : List ℕ). Said l (g.D.Device.state c.args.device.now) (g.D.Device.state c.say.new.device)) (c.as_slice.ensures ∙ c.in_ok-lines.ensures.lines) (said_then c.as_slice.result.now (g.D.Device.state c.args.device.now) (g.D.Device.state c.look.new.device) (g.D.Device.state c.say.new.device) (g.D.Device.leaves c.args.device.now) (g.D.Device.leaves c.look.new.device) (c.look.ensures.rests told) (c.in_ok-say.ensures.sent told_b)),
      c.in_ok-lines.ensures.bytes,
    )

pub returns-in_err-say-clause-unwritten : goal.returns-in_err-say-clause-unwritten
returns-in_err-say-clause-unwritten g c = λ told.
    let told_b : IsTrue (g.D.Device.state c.look.new.device).told = rw c.look.ensures.frame.told told in
    (c.say.ensures.part told_b).disk.put ∙ (c.look.ensures.rests told).put

pub returns-clause-unwritten : goal.returns-clause-unwritten
returns-clause-unwritten g c = λ told.
    let told_b : IsTrue (g.D.Device.state c.look.new.device).told = rw c.look.ensures.frame.told told in
    (c.say.ensures.part told_b).disk.put ∙ (c.look.ensures.rests told).put
