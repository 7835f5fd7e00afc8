use Rattle.service_ends.specs.Standing.{state_of}
use Rattle.monitor_core.proofs.Uses.{rests_here}
use Rattle.monitor_core.proofs.input.begin.Goals as goal

pub start_service-requires-clause-rests : goal.start_service-requires-clause-rests
start_service-requires-clause-rests c = rests_here (state_of c.args.parts.now) c.args.pterm.now c.in-Some.user c.in-Some.ensures c.requires.none
