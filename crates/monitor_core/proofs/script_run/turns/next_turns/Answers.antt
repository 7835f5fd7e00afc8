use Rattle.std.proofs.Common.{◌≡◌, ◌∙◌, ◌<◌, Bool, true, false, arith, refl, sym, true≢false}
use Rattle.std.specs.Prelude.{not, IsTrue}
use Rattle.std.proofs.lemmas.Bool.{le-ltb}
use Rattle.monitor_core.specs.CoreSteps.{idle_steps, turn_steps}
use Rattle.monitor_core.specs.IdleLaws.{first_free, idle_turns, no_work, none_then, one_turn}
use Rattle.monitor_core.proofs.script_run.turns.next_turns.Goals as goal
use Rattle.monitor_core.proofs.script_run.turns.next_turns.Goals.{then-free-gt0-2, else-free-gt0-2}

unmoved_by : (moved : Bool) → not moved ≡ true → moved ≡ false
unmoved_by true h = absurd (true≢false (sym h))
unmoved_by false h = refl

pub returns-then-free-gt0-clause-took : goal.returns-then-free-gt0-clause-took
returns-then-free-gt0-clause-took g c =
    (idle_steps c.args.core.state c.in_ok-next.turns, c.in_ok-next.ensures.took, idle_turns c.args.core c.in_ok-next.next c.args.task c.in_ok-next.turns c.in_ok-next.ensures.within.0 (λ i lt. c.free_from-free.ensures.free i (omega (arith, lt, c.in_ok-next.ensures.within.1))) (c.requires.idle c.if-idle.true) (omega (arith, c.requires.within, c.free_from-free.ensures.most, c.in_ok-next.ensures.within.1)) c.in_ok-next.ensures.rested)

pub returns-then-free-gt0-clause-idle : goal.returns-then-free-gt0-clause-idle
returns-then-free-gt0-clause-idle g c = λ was. none_then c.args.core c.in_ok-next.next c.in_ok-next.turns (c.requires.idle c.if-idle.true) c.in_ok-next.ensures.rested

pub returns-clause-took : goal.returns-clause-took
returns-clause-took g c = (turn_steps c.args.core c.args.task, c.in_ok-next-2.ensures.took, one_turn c.args.core c.in_ok-next-2.next c.args.task c.in_ok-next-2.moved c.in_ok-next-2.ensures.turned)

pub returns-clause-idle : goal.returns-clause-idle
returns-clause-idle g c =
    elim c.if-free-gt0-2.branch [
      | then-free-gt0-2 w ↦
          let free = first_free c.args.core.state c.args.task c.free_from-free.result c.free_from-free.ensures.free (omega (arith, w.if-free-gt0-2.true)) in
          λ is. no_work c.args.core c.in_ok-next-2.next c.args.task c.in_ok-next-2.moved free c.in_ok-next-2.ensures.turned (unmoved_by c.in_ok-next-2.moved (sym w.idle-is ∙ is)) (g.met.S.Sink.goes.application _ _ _ _ _ c.in_ok-next-2.ensures.took)
      | else-free-gt0-2 w ↦ λ is. absurd (true≢false (sym is ∙ w.idle-is ∙ le-ltb 0 c.free_from-free.result (omega (arith, w.if-free-gt0-2.false))))
    ]
