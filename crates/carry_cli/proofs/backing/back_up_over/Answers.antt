use Rattle.std.proofs.Common.{ap, Err}
use Rattle.call_parts.specs.Asking.{update_errand}
use Rattle.kdcfile_carry.specs.declared.backing.BackUpError.{BackUpError}
use Rattle.carry_cli.specs.Doing.{no_backup}
use Rattle.carry_cli.proofs.BackingUp.{no_backup_is}
use Rattle.carry_cli.proofs.Carried.{if_ok}
use Rattle.carry_cli.proofs.backing.back_up_over.Goals as goal

pub returns-in-Ok-clause-is : goal.returns-in-Ok-clause-is
returns-in-Ok-clause-is g c = λ told told_to none. (none, c.in-Ok.ensures.done told told_to)

pub returns-in-Err-clause-is : goal.returns-in-Err-clause-is
returns-in-Err-clause-is g c =
    let a = g.T.Twin.both c.args.twin.now in
    if_ok c.no_backup.result (no_backup c.in-Err.why) _ c.no_backup.ensures
    (λ x is told told_to none.
    no_backup_is (update_errand c.args.work.now) a.first.holds a.second.holds (g.D.Device.state c.args.device.now).holds (g.D.Device.state c.back_up.new.to) (g.D.Device.leaves c.back_up.new.to) none c.in-Err.why x is
    (λ w same. c.in-Err.ensures.refused w (ap (λ (k : BackUpError). Err k) same) told) (λ same. c.in-Err.ensures.two (ap (λ (k : BackUpError). Err k) same) told) (λ n same. c.in-Err.ensures.spent n (ap (λ (k : BackUpError). Err k) same) told)
    (λ same. c.in-Err.ensures.other (ap (λ (k : BackUpError). Err k) same) told) (λ same. c.in-Err.ensures.not_empty (ap (λ (k : BackUpError). Err k) same) told_to) (λ same. c.in-Err.ensures.differs (ap (λ (k : BackUpError). Err k) same) told_to))
