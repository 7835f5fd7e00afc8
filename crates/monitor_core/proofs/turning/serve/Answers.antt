use Rattle.std.proofs.Common.{ap, subst, ◌∙◌}
use Rattle.std.proofs.lemmas.Result.{IfOk-weaker}
use Rattle.service_ends.specs.Ending.{turned_to}
use Rattle.service_ends.specs.Standing.{state_of}
use Rattle.monitor_core.specs.WholeLaws.{Exact, StateThen, breaks, breaks_serves, holds_it, queued_there, queues, returns, returns_serves, settles, settles_serves, task_then, waited, went}
use Rattle.monitor_core.proofs.turning.serve.Goals as goal

pub queue-requires-clause-task : goal.queue-requires-clause-task
queue-requires-clause-task c =
    task_then c.args.parts.now c.args.task c.args.id.now c.requires.whole c.requires.held c.next_statement.new.parts c.in_ok-next_statement.field-0 c.in_ok-next_statement.ensures.exact c.in_ok-next_statement.ensures.state c.requires.task

pub queue-requires-clause-is_open : goal.queue-requires-clause-is_open
queue-requires-clause-is_open c =
    queued_there c.args.parts.now c.args.task c.args.id.now c.requires.whole c.requires.held c.next_statement.new.parts
    (subst (StateThen c.args.parts.now c.args.task c.args.id.now c.requires.whole c.requires.held c.next_statement.new.parts) c.in-Queued.is c.in_ok-next_statement.ensures.state)

pub hold-requires-clause-task : goal.hold-requires-clause-task
hold-requires-clause-task c =
    task_then c.args.parts.now c.args.task c.args.id.now c.requires.whole c.requires.held c.next_statement.new.parts c.in_ok-next_statement.field-0 c.in_ok-next_statement.ensures.exact c.in_ok-next_statement.ensures.state c.requires.task

pub pass_point-requires : goal.pass_point-requires
pass_point-requires c =
    record {
      serves = settles_serves c.args.parts.now c.args.task c.args.id.now c.requires.whole c.requires.held c.next_statement.new.parts c.in_ok-next_statement.ensures.generation c.in_ok-next_statement.ensures.units c.in-Settles.outcome
          (subst (StateThen c.args.parts.now c.args.task c.args.id.now c.requires.whole c.requires.held c.next_statement.new.parts) c.in-Settles.is c.in_ok-next_statement.ensures.state) c.in_ok-next_statement.ensures.indexed
          (task_then c.args.parts.now c.args.task c.args.id.now c.requires.whole c.requires.held c.next_statement.new.parts c.in_ok-next_statement.field-0 c.in_ok-next_statement.ensures.exact c.in_ok-next_statement.ensures.state c.requires.task);
    }

pub end-requires : goal.end-requires
end-requires c =
    record {
      serves = breaks_serves c.args.parts.now c.args.task c.args.id.now c.requires.whole c.requires.held c.next_statement.new.parts c.in_ok-next_statement.ensures.generation c.in_ok-next_statement.ensures.units c.in-Breaks.ending
          (subst (StateThen c.args.parts.now c.args.task c.args.id.now c.requires.whole c.requires.held c.next_statement.new.parts) c.in-Breaks.is c.in_ok-next_statement.ensures.state) c.in_ok-next_statement.ensures.indexed
          (task_then c.args.parts.now c.args.task c.args.id.now c.requires.whole c.requires.held c.next_statement.new.parts c.in_ok-next_statement.field-0 c.in_ok-next_statement.ensures.exact c.in_ok-next_statement.ensures.state c.requires.task);
    }

pub go_back-requires : goal.go_back-requires
go_back-requires c =
    record {
      serves = returns_serves c.args.parts.now c.args.task c.args.id.now c.requires.whole c.requires.held c.next_statement.new.parts c.in_ok-next_statement.ensures.generation c.in_ok-next_statement.ensures.units
          (subst (StateThen c.args.parts.now c.args.task c.args.id.now c.requires.whole c.requires.held c.next_statement.new.parts) c.in-Returns.is c.in_ok-next_statement.ensures.state) c.in_ok-next_statement.ensures.indexed
          (task_then c.args.parts.now c.args.task c.args.id.now c.requires.whole c.requires.held c.next_statement.new.parts c.in_ok-next_statement.field-0 c.in_ok-next_statement.ensures.exact c.in_ok-next_statement.ensures.state c.requires.task);
    }

pub returns-in-Went-clause-exact : goal.returns-in-Went-clause-exact
returns-in-Went-clause-exact c =
    ap (turned_to (state_of c.next_statement.new.parts)) c.quiet.ensures
    ∙ went c.args.parts.now c.args.task c.args.id.now c.requires.whole c.requires.held c.next_statement.new.parts
    (subst (Exact c.args.parts.now c.args.task c.args.id.now c.requires.whole c.requires.held c.next_statement.new.parts) c.in-Went.is c.in_ok-next_statement.ensures.exact)
    (subst (StateThen c.args.parts.now c.args.task c.args.id.now c.requires.whole c.requires.held c.next_statement.new.parts) c.in-Went.is c.in_ok-next_statement.ensures.state)

pub returns-in-Waited-clause-exact : goal.returns-in-Waited-clause-exact
returns-in-Waited-clause-exact c =
    ap (turned_to (state_of c.next_statement.new.parts)) c.quiet-in-Waited.ensures
    ∙ waited c.args.parts.now c.args.task c.args.id.now c.requires.whole c.requires.held c.next_statement.new.parts
    (subst (Exact c.args.parts.now c.args.task c.args.id.now c.requires.whole c.requires.held c.next_statement.new.parts) c.in-Waited.is c.in_ok-next_statement.ensures.exact)
    (subst (StateThen c.args.parts.now c.args.task c.args.id.now c.requires.whole c.requires.held c.next_statement.new.parts) c.in-Waited.is c.in_ok-next_statement.ensures.state)

pub returns-in-Queued-clause-exact : goal.returns-in-Queued-clause-exact
returns-in-Queued-clause-exact c =
    IfOk-weaker c.queue.result _ _ (λ did e.
    queues c.args.parts.now c.args.task c.args.id.now c.requires.whole c.requires.held c.next_statement.new.parts
    (subst (Exact c.args.parts.now c.args.task c.args.id.now c.requires.whole c.requires.held c.next_statement.new.parts) c.in-Queued.is c.in_ok-next_statement.ensures.exact)
    (subst (StateThen c.args.parts.now c.args.task c.args.id.now c.requires.whole c.requires.held c.next_statement.new.parts) c.in-Queued.is c.in_ok-next_statement.ensures.state)
    (turned_to (state_of c.queue.new.parts) did) e)
    c.queue.ensures.exact

pub returns-in-Held-clause-exact : goal.returns-in-Held-clause-exact
returns-in-Held-clause-exact c =
    IfOk-weaker c.hold.result _ _ (λ did e.
    holds_it c.args.parts.now c.args.task c.args.id.now c.requires.whole c.requires.held c.next_statement.new.parts c.in-Held.field-0
    (subst (Exact c.args.parts.now c.args.task c.args.id.now c.requires.whole c.requires.held c.next_statement.new.parts) c.in-Held.is c.in_ok-next_statement.ensures.exact)
    (subst (StateThen c.args.parts.now c.args.task c.args.id.now c.requires.whole c.requires.held c.next_statement.new.parts) c.in-Held.is c.in_ok-next_statement.ensures.state)
    (turned_to (state_of c.hold.new.parts) did) e)
    c.hold.ensures.exact

pub returns-in-Settles-clause-exact : goal.returns-in-Settles-clause-exact
returns-in-Settles-clause-exact c =
    IfOk-weaker c.pass_point.result _ _ (λ did e.
    settles c.args.parts.now c.args.task c.args.id.now c.requires.whole c.requires.held c.next_statement.new.parts c.in_ok-next_statement.ensures.generation c.in_ok-next_statement.ensures.units c.in-Settles.outcome
    (subst (Exact c.args.parts.now c.args.task c.args.id.now c.requires.whole c.requires.held c.next_statement.new.parts) c.in-Settles.is c.in_ok-next_statement.ensures.exact)
    (subst (StateThen c.args.parts.now c.args.task c.args.id.now c.requires.whole c.requires.held c.next_statement.new.parts) c.in-Settles.is c.in_ok-next_statement.ensures.state)
    (turned_to (state_of c.pass_point.new.parts) did) e)
    c.pass_point.ensures.exact

pub returns-in-Breaks-clause-exact : goal.returns-in-Breaks-clause-exact
returns-in-Breaks-clause-exact c =
    IfOk-weaker c.end.result _ _ (λ did e.
    breaks c.args.parts.now c.args.task c.args.id.now c.requires.whole c.requires.held c.next_statement.new.parts c.in_ok-next_statement.ensures.generation c.in_ok-next_statement.ensures.units c.in-Breaks.ending
    (subst (Exact c.args.parts.now c.args.task c.args.id.now c.requires.whole c.requires.held c.next_statement.new.parts) c.in-Breaks.is c.in_ok-next_statement.ensures.exact)
    (subst (StateThen c.args.parts.now c.args.task c.args.id.now c.requires.whole c.requires.held c.next_statement.new.parts) c.in-Breaks.is c.in_ok-next_statement.ensures.state)
    (turned_to (state_of c.end.new.parts) did) e)
    c.end.ensures.exact

pub returns-in-Returns-clause-exact : goal.returns-in-Returns-clause-exact
returns-in-Returns-clause-exact c =
    IfOk-weaker c.go_back.result _ _ (λ did e.
    returns c.args.parts.now c.args.task c.args.id.now c.requires.whole c.requires.held c.next_statement.new.parts c.in_ok-next_statement.ensures.generation c.in_ok-next_statement.ensures.units
    (subst (Exact c.args.parts.now c.args.task c.args.id.now c.requires.whole c.requires.held c.next_statement.new.parts) c.in-Returns.is c.in_ok-next_statement.ensures.exact)
    (subst (StateThen c.args.parts.now c.args.task c.args.id.now c.requires.whole c.requires.held c.next_statement.new.parts) c.in-Returns.is c.in_ok-next_statement.ensures.state)
    (turned_to (state_of c.go_back.new.parts) did) e)
    c.go_back.ensures.exact
