use Rattle.monitor_core.specs.ResultsLaws.{if_three}
use Rattle.trail_run.proofs.Restarting.{did_restart}
use Rattle.trail_run.proofs.steps.KeptSink.restart.Goals as goal

pub returns-clause-took : goal.returns-clause-took
returns-clause-took c = if_three _ _ _ _ c.start_beside.result (λ d. did_restart c.args.core d c.args.self.now) c.start_beside.ensures.application c.start_beside.ensures.state c.start_beside.ensures.durable
