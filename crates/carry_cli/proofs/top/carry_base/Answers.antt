use Rattle.call_parts.specs.Asking.{update_errand}
use Rattle.carry_cli.proofs.Carries.{over_work}
use Rattle.carry_cli.proofs.top.carry_base.Goals as goal

pub returns-in-Ok-clause-ends : goal.returns-in-Ok-clause-ends
returns-in-Ok-clause-ends g c =
    over_work c.args.base.now c.args.options (g.R.Room.room c.args.room.now) (g.R.Room.room c.work_of.new.room) (g.T.Twin.both c.args.twin.now) (g.T.Twin.leaves c.args.twin.now) (g.T.Twin.both c.carry_work.new.twin) (g.T.Twin.leaves c.carry_work.new.twin)
    (update_errand c.in-Ok.work) c.carry_work.result.code c.in-Ok.ensures.asks c.in-Ok.ensures.only c.carry_work.ensures
