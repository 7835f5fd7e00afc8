use Rattle.std.proofs.Common.{inl}
use Rattle.std.specs.Prelude.{IsTrue}
use Rattle.call_parts.specs.Asking.{update_errand}
use Rattle.carry_cli.specs.Carrying.{NoneIsMissing}
use Rattle.carry_cli.specs.Words.{plain}
use Rattle.carry_cli.proofs.BackingUp.{is_since, writes_since}
use Rattle.carry_cli.proofs.Carried.{if_ok_then, none_then}
use Rattle.carry_cli.proofs.backing.answer_for.Goals as goal

pub returns-clause-is : goal.returns-clause-is
returns-clause-is g c =
    let a = g.T.Twin.both c.args.twin.now in
    if_ok_then c.back_up_over.result _ _ c.back_up_over.ensures.is
    (λ x was.
    is_since c.args.base.now c.args.to.now a (g.T.Twin.both c.find_missing.new.twin) (g.T.Twin.leaves c.args.twin.now) (g.T.Twin.leaves c.find_missing.new.twin) (g.D.Device.state c.args.device.now) c.find_missing.ensures.rests c.find_missing.ensures.names c.find_missing.ensures.frame
    (g.D.Device.state c.attach_to.new.device) (g.D.Device.leaves c.args.device.now) (g.D.Device.leaves c.attach_to.new.device) c.attach_to.ensures.rests c.attach_to.ensures.names c.attach_to.ensures.frame (g.T.Twin.both c.back_up_over.new.twin) (g.D.Device.state c.back_up_over.new.device)
    (update_errand c.args.work.now) x (g.D.Device.leaves c.back_up_over.new.device) was (none_then _ (IsTrue a.told → NoneIsMissing plain a.first.holds a.second.holds) c.in_default.is c.in_ok-half.ensures.none))

pub returns-in_err-attach_to-clause-written : goal.returns-in_err-attach_to-clause-written
returns-in_err-attach_to-clause-written g c = λ told told_to. inl (c.attach_to.ensures.rests told_to).put

pub returns-clause-written : goal.returns-clause-written
returns-clause-written g c =
    writes_since c.args.base.now c.args.to.now (g.T.Twin.both c.args.twin.now) (g.T.Twin.both c.find_missing.new.twin) (g.T.Twin.leaves c.args.twin.now) (g.T.Twin.leaves c.find_missing.new.twin) (g.D.Device.state c.args.device.now) c.find_missing.ensures.rests c.find_missing.ensures.names c.find_missing.ensures.frame
    (g.D.Device.state c.attach_to.new.device) (g.D.Device.leaves c.args.device.now) (g.D.Device.leaves c.attach_to.new.device) c.attach_to.ensures.rests c.attach_to.ensures.names c.attach_to.ensures.frame (g.T.Twin.both c.back_up_over.new.twin) (g.D.Device.state c.back_up_over.new.device)
    (update_errand c.args.work.now) c.back_up_over.ensures.written
