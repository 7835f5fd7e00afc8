use Rattle.std.proofs.Common.{◌∙◌}
use Rattle.laws_of_runs.specs.Applied.{applied}
use Rattle.lab_turns.proofs.Restarting.{starts_beside}
use Rattle.lab_turns.proofs.bench.Bench.start.Goals as goal

pub invariant_of-result : goal.invariant_of-result
invariant_of-result c =
    starts_beside (applied c.args.generation c.args.units) c.args.tables c.in_ok-durable.durable.value c.in_ok-core.core c.requires.suits c.in_ok-core.ensures.application_is c.in_ok-core.ensures.facts c.in_ok-core.ensures.application c.in_ok-core.ensures.state (c.in_ok-durable.ensures.ok ∙ c.in_ok-clone.ensures.cases)
