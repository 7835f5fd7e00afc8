use Rattle.abstract_monitor.specs.Statement.{done_by}
use Rattle.service_parts.proofs.unit_step.Calls.{is_call}
use Rattle.service_parts.proofs.unit_step.stepping.do_action.Goals as goal

pub call_of-requires-clause-call : goal.call_of-requires-clause-call
call_of-requires-clause-call c =
    let d = c.in_default in
    is_call c.args.action.now d.not-Move d.not-Join d.not-Add d.not-Sub d.not-Mul d.not-Div d.not-If d.not-Jump

pub returns-in-Add-clause-exact : goal.returns-in-Add-clause-exact
unfolding done_by
returns-in-Add-clause-exact c = rw c.in-Add.is c.arithmetic.ensures.meaning

pub returns-in-Sub-clause-exact : goal.returns-in-Sub-clause-exact
unfolding done_by
returns-in-Sub-clause-exact c = rw c.in-Sub.is c.arithmetic-in-Sub.ensures.meaning

pub returns-in-Mul-clause-exact : goal.returns-in-Mul-clause-exact
unfolding done_by
returns-in-Mul-clause-exact c = rw c.in-Mul.is c.arithmetic-in-Mul.ensures.meaning

pub returns-in-Div-clause-exact : goal.returns-in-Div-clause-exact
unfolding done_by
returns-in-Div-clause-exact c = rw c.in-Div.is c.arithmetic-in-Div.ensures.meaning

pub returns-in-If-clause-exact : goal.returns-in-If-clause-exact
unfolding done_by
returns-in-If-clause-exact c = rw (c.in-If.is, c.branch-unit.ensures)

pub returns-in-Jump-clause-exact : goal.returns-in-Jump-clause-exact
unfolding done_by
returns-in-Jump-clause-exact c = rw (c.in-Jump.is, c.jump.ensures)
