use Rattle.std.proofs.lemmas.Result.{IfOk-weaker}
use Rattle.monitor_core.specs.StatedLaws.{sound_tables}
use Rattle.monitor_core.proofs.Ticks.{tick_comes, tick_fits}
use Rattle.monitor_core.proofs.clock.tick.Goals as goal

pub change-requires-clause-before : goal.change-requires-clause-before
change-requires-clause-before c = c.requires.whole.facts.1.suits.charge

pub change-requires-clause-after : goal.change-requires-clause-after
change-requires-clause-after c =
    tick_fits c.args.parts.now c.args.ticks c.in-Some.clock _ c.clock.result (sound_tables c.args.parts.now c.requires.whole.facts) c.clock.ensures.value c.in-Some.ensures
    (λ i. record { clock = c.in-Some.clock; next_job = c.next_job.ensures i; items = c.new.ensures i })

pub returns-clause-exact : goal.returns-clause-exact
returns-clause-exact c =
    IfOk-weaker c.line_behind.result _ _
    (tick_comes c.args.parts.now c.args.ticks c.in-Some.clock _ _ _ c.clock.result c.clock.ensures.value c.in-Some.ensures
    (λ i. record { clock = c.in-Some.clock; next_job = c.next_job.ensures i; items = c.new.ensures i })
    c.in_ok-tick_line.ensures c.in_ok-change.ensures.state)
    c.line_behind.ensures
