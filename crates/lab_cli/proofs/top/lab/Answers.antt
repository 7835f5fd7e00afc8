use Rattle.std.proofs.Common.{arith, map, refl}
use Rattle.std.specs.String.{string_bytes}
use Rattle.lab_cli.proofs.Answering.{answers, request_ends, usage_ends}
use Rattle.lab_cli.proofs.top.lab.Goals as goal

pub returns-in_default : goal.returns-in_default
returns-in_default g c =
    let r = g.R.Room.room c.args.room.now in
    answers g.C.Console.passes (g.C.Console.prompted c.args.console) (map string_bytes c.args.words.now) r r c.args.console c.say-status.new.console c.say-status.result.code _ c.in_default.ensures
    (usage_ends g.C.Console.passes (g.C.Console.prompted c.args.console) r c.args.console c.say-status.new.console c.say-status.result.code c.say-status.ensures.code c.say-status.ensures.said) (record { told = refl; texts = refl; sure = refl; faults = omega arith })

pub returns : goal.returns
returns g c =
    let r = g.R.Room.room c.args.room.now in
    let l = g.R.Room.room c.do_request-done.new.room in
    answers g.C.Console.passes (g.C.Console.prompted c.args.console) (map string_bytes c.args.words.now) r l c.args.console c.status_of-status.new.console c.status_of-status.result.code _ c.in-Some.ensures
    (request_ends g.C.Console.passes (g.C.Console.prompted c.args.console) r l c.args.console c.status_of-status.new.console c.status_of-status.result.code c.in-Some.word c.in-Some.base.now c.do_request-done.result.1 (g.met.R.Room.sure_tells c.args.room.now) c.do_request-done.result.0 c.do_request-done.ensures.came c.status_of-status.ensures) c.do_request-done.ensures.same
