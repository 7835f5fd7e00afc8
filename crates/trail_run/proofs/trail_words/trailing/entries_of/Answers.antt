use Rattle.std.proofs.Common.{◌∙◌}
use Rattle.laws_of_runs.specs.Applied.{applied}
use Rattle.trail_run.proofs.trail_words.Runs.{starts_durable}
use Rattle.trail_run.proofs.trail_words.trailing.entries_of.Goals as goal

pub trail_of-requires-clause-durable : goal.trail_of-requires-clause-durable
trail_of-requires-clause-durable c =
    c.in_ok-durable.ensures.cases ∙ starts_durable (applied c.args.generation c.args.units) c.args.tables c.in_ok-core.core c.requires.can.suits c.in_ok-core.ensures.application c.in_ok-core.ensures.state
