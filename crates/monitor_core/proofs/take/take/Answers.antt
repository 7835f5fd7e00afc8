use Rattle.std.specs.Prelude.{None}
use Rattle.std.proofs.Common.{ap, sym, ◌∙◌}
use Rattle.kd_base.specs.ToolsLaws.{some_of}
use Rattle.service_ends.specs.Ending.{turned_to}
use Rattle.monitor_core.specs.TakingLaws.{answered, begun_indexed, picked_for, ready_indexed, took_begun, took_none, took_picked, took_ready}
use Rattle.monitor_core.proofs.take.take.Goals as goal

pub returns-in-None-clause-exact : goal.returns-in-None-clause-exact
returns-in-None-clause-exact c =
    let p = c.args.parts.now in
    let h = c.requires.whole.indexed in
    let work = c.in-None.ensures.work in
    let state = c.in-None.ensures.state in
    ap (turned_to _) c.quiet.ensures
    ∙ took_none p c.args.task c.pick.new.self (picked_for p c.args.task c.pick.new.self None _ h c.clock-clock.ensures.sorted c.clock-clock.ensures.value work state)
    ∙ took_picked p c.args.task None h (answered p c.args.task c.pick.new.self None _ h c.clock-clock.ensures.sorted c.clock-clock.ensures.value work state)

pub returns-in-Some-Service-clause-exact : goal.returns-in-Some-Service-clause-exact
returns-in-Some-Service-clause-exact c =
    let p = c.args.parts.now in
    let h = c.requires.whole.indexed in
    let work = sym (ap some_of c.in-Some-Service.field-0-is) ∙ c.in-Some-Service.ensures.work in
    let state = c.in-Some-Service.ensures.state in
    ap (turned_to _) c.quiet-in-Some-Service.ensures
    ∙ took_ready p c.args.task c.pick.new.self _ (picked_for p c.args.task c.pick.new.self _ _ h c.clock-clock.ensures.sorted c.clock-clock.ensures.value work state)
    ∙ took_picked p c.args.task _ h (answered p c.args.task c.pick.new.self _ _ h c.clock-clock.ensures.sorted c.clock-clock.ensures.value work state)

pub returns-in-Some-Service-clause-indexed : goal.returns-in-Some-Service-clause-indexed
returns-in-Some-Service-clause-indexed c =
    let p = c.args.parts.now in
    let h = c.requires.whole.indexed in
    ready_indexed p c.args.task c.pick.new.self _
    (picked_for p c.args.task c.pick.new.self _ _ h c.clock-clock.ensures.sorted c.clock-clock.ensures.value (sym (ap some_of c.in-Some-Service.field-0-is) ∙ c.in-Some-Service.ensures.work) c.in-Some-Service.ensures.state) h

pub returns-in_ok-begin_job-in-Some-Job-clause-exact : goal.returns-in_ok-begin_job-in-Some-Job-clause-exact
returns-in_ok-begin_job-in-Some-Job-clause-exact c =
    let p = c.args.parts.now in
    let h = c.requires.whole.indexed in
    let work = sym (ap some_of c.in-Some-Job.field-0-is) ∙ c.in-Some-Job.ensures.work in
    let state = c.in-Some-Job.ensures.state in
    ap (turned_to _) c.quiet-in-Some-Job.ensures
    ∙ took_begun p c.args.task c.pick.new.self c.in-Some-Job.number c.begin_job.new.parts h c.requires.whole.facts.0
    (picked_for p c.args.task c.pick.new.self _ _ h c.clock-clock.ensures.sorted c.clock-clock.ensures.value work state)
    c.in_ok-begin_job-in-Some-Job.ensures
    ∙ took_picked p c.args.task _ h (answered p c.args.task c.pick.new.self _ _ h c.clock-clock.ensures.sorted c.clock-clock.ensures.value work state)

pub returns-in_ok-begin_job-in-Some-Job-clause-indexed : goal.returns-in_ok-begin_job-in-Some-Job-clause-indexed
returns-in_ok-begin_job-in-Some-Job-clause-indexed c =
    let p = c.args.parts.now in
    let h = c.requires.whole.indexed in
    begun_indexed p c.args.task c.pick.new.self c.in-Some-Job.number c.begin_job.new.parts h c.requires.whole.facts.0
    (picked_for p c.args.task c.pick.new.self _ _ h c.clock-clock.ensures.sorted c.clock-clock.ensures.value (sym (ap some_of c.in-Some-Job.field-0-is) ∙ c.in-Some-Job.ensures.work) c.in-Some-Job.ensures.state)
    c.in_ok-begin_job-in-Some-Job.ensures
