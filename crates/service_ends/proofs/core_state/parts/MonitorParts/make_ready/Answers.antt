use Rattle.service_ends.specs.KeptLaws.{made_ready, made_ready_state}
use Rattle.service_ends.proofs.core_state.parts.MonitorParts.make_ready.Goals as goal

pub returns-clause-indexed : goal.returns-clause-indexed
returns-clause-indexed c = made_ready c.args.self.now _ c.args.id.now _ c.class_at-class.ensures c.in_ok-ready.ensures.ok c.requires.indexed

pub returns-clause-state : goal.returns-clause-state
returns-clause-state c = made_ready_state c.args.self.now _ c.args.id.now _ c.in_ok-ready.ensures.ok
