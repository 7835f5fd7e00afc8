use Rattle.std.proofs.Common.{Bool, Err, subst, sym}
use Rattle.lab_cli.specs.Answers.{WordCame}
use Rattle.lab_cli.specs.Places.{IsPlaceOf}
use Rattle.lab_cli.specs.Stops.{StopsAt}
use Rattle.lab_cli.specs.declared.stop.Stop.{Stop}
use Rattle.lab_cli.proofs.Answering.{came_back, untouched}
use Rattle.lab_cli.proofs.top.do_work.Goals as goal

pub returns-in-Err-clause-came : goal.returns-in-Err-clause-came
returns-in-Err-clause-came g c =
    let r = g.R.Room.room c.args.room.now in
    let l = g.R.Room.room c.place_of.new.room in
    (subst (λ (w : Bool). StopsAt w c.args.base.now r l c.in-Err.why) c.reads_script.ensures c.in-Err.ensures.stops, untouched c.args.console c.in-Err.why)

pub returns-in-Ok-done-clause-came : goal.returns-in-Ok-done-clause-came
returns-in-Ok-done-clause-came g c =
    let r = g.R.Room.room c.args.room.now in
    (c.in-Ok.ensures.fine, (c.in-Ok.place, λ told. subst (λ (w : Bool). IsPlaceOf w c.args.base.now r.texts c.in-Ok.place) c.reads_script.ensures (c.in-Ok.ensures.place told), rw c.in-Ok-done.is at c.work_at-done.ensures))

pub returns-in-Err-done-clause-came : goal.returns-in-Err-done-clause-came
returns-in-Err-done-clause-came g c =
    let r = g.R.Room.room c.args.room.now in
    let l = g.R.Room.room c.place_of.new.room in
    subst (λ (w : Stop). WordCame g.C.Console.passes (g.C.Console.prompted c.args.console) c.args.word c.args.base.now r l c.args.console c.work_at-done.result.1 (Err w)) (sym c.from.ensures) (came_back g.C.Console.passes (g.C.Console.prompted c.args.console) c.args.word c.args.base.now r l c.args.console c.work_at-done.result.1 c.in-Err-done.error c.in-Ok.ensures.fine)
