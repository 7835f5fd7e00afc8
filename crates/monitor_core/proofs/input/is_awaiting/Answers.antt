use Rattle.std.proofs.Common.{true, false, ap, ◌∙◌}
use Rattle.abstract_monitor.specs.Sessions.{awaits_by}
use Rattle.monitor_core.proofs.Signs.{awaits_is}
use Rattle.monitor_core.proofs.input.is_awaiting.Goals as goal

pub returns-then-contains_key : goal.returns-then-contains_key
returns-then-contains_key c = awaits_is c.args.parts.now c.args.id.now c.contains_key.result true c.contains_key.ensures c.if-contains_key.true

pub returns-in-Some : goal.returns-in-Some
returns-in-Some c = ap awaits_by c.in-Some.ensures ∙ awaits_is c.args.parts.now c.args.id.now c.contains_key.result false c.contains_key.ensures c.if-contains_key.false

pub returns-in-None : goal.returns-in-None
returns-in-None c = ap awaits_by c.in-None.ensures ∙ awaits_is c.args.parts.now c.args.id.now c.contains_key.result false c.contains_key.ensures c.if-contains_key.false
