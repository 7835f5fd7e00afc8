use Rattle.std.proofs.Common.{ℕ, List, ap, ◌∙◌, ◌∷◌, []}
use Rattle.abstract_monitor.specs.Commands.{turned_step}
use Rattle.abstract_monitor.specs.Turns.{Turned, turn_of}
use Rattle.monitor_core.specs.KeepingLaws.{did_turn}
use Rattle.monitor_core.specs.ResultsLaws.{handed_on}
use Rattle.device_run.specs.SteppingLaws.{can_act}
use Rattle.device_run.proofs.Acting.{nothing_done, ready_stands, step_failed, step_took}
use Rattle.device_run.proofs.Storables.{turn_can}
use Rattle.device_run.proofs.storing.StoringSink.turn.Goals as goal

pub keep_acts-requires-clause-can : goal.keep_acts-requires-clause-can
keep_acts-requires-clause-can g c = can_act c.args.self.now.fingerprint.now c.args.core (g.K.Keeper.identity c.args.self.now.keeper.now) (g.K.Keeper.kept c.args.self.now.keeper.now) (turned_step (turn_of c.args.core.application c.args.core.state c.args.task)) c.as_slice-acts.result.now (turn_can c.args.self.now.fingerprint.now c.args.core (g.K.Keeper.identity c.args.self.now.keeper.now) (g.K.Keeper.kept c.args.self.now.keeper.now) c.requires.ready.1.running c.as_slice-acts.result.now c.acts_are_named.ensures.named c.steps_can_be_stored.ensures.turns c.args.task c.requires.task (c.as_slice-acts.ensures ∙ ap (λ (t : Turned). t.acts) c.in_ok-next.ensures.exact))

pub returns-in_err-next-clause-failed : goal.returns-in_err-next-clause-failed
returns-in_err-next-clause-failed g c =
    handed_on _ c.from_residual.result _ c.from_residual.ensures.1
    (nothing_done g.K.Keeper.stands g.K.Reopens.commit_most c.args.self.now.fingerprint.now c.args.core ((turned_step (turn_of c.args.core.application c.args.core.state c.args.task)) ∷ []) (g.K.Keeper.state c.args.self.now.keeper.now) (g.K.Keeper.leaves c.args.self.now.keeper.now)
    (ready_stands g.K.Keeper.stands c.args.self.now.fingerprint.now c.args.core (g.K.Keeper.identity c.args.self.now.keeper.now) (g.K.Keeper.kept c.args.self.now.keeper.now) (g.K.Keeper.file c.args.self.now.keeper.now) (g.K.Keeper.state c.args.self.now.keeper.now) (g.K.Keeper.leaves c.args.self.now.keeper.now) (g.met.K.Keeper.file_stands c.args.self.now.keeper.now) c.requires.ready.1)
    g.K.Keeper.fine g.met.K.Keeper.fine_goes (c.args.self.now.keeper.ghost_name ∷ g.K.Keeper.place c.args.self.now.keeper.now))

pub returns-in_err-keep_acts-clause-failed : goal.returns-in_err-keep_acts-clause-failed
returns-in_err-keep_acts-clause-failed g c =
    handed_on _ c.from_residual-in_err-keep_acts.result _ c.from_residual-in_err-keep_acts.ensures.1
    (step_failed c.args.self.now.fingerprint.now c.args.core (g.K.Keeper.identity c.args.self.now.keeper.now) (g.K.Keeper.kept c.args.self.now.keeper.now) (turned_step (turn_of c.args.core.application c.args.core.state c.args.task)) c.as_slice-acts.result.now (turn_can c.args.self.now.fingerprint.now c.args.core (g.K.Keeper.identity c.args.self.now.keeper.now) (g.K.Keeper.kept c.args.self.now.keeper.now) c.requires.ready.1.running c.as_slice-acts.result.now c.acts_are_named.ensures.named c.steps_can_be_stored.ensures.turns c.args.task c.requires.task (c.as_slice-acts.ensures ∙ ap (λ (t : Turned). t.acts) c.in_ok-next.ensures.exact)) g.K.Keeper.stands g.K.Keeper.most_written g.K.Reopens.commit_most g.met.K.Reopens.commit_bounded g.K.Keeper.fine (c.args.self.now.keeper.ghost_name ∷ g.K.Keeper.place c.args.self.now.keeper.now) (c.args.self.now.keeper.ghost_name ∷ g.K.Keeper.place c.keep_acts.new.keeper) (ap (λ (l : List ℕ). c.args.self.now.keeper.ghost_name ∷ l) c.keep_acts.ensures.place) (g.K.Keeper.state c.args.self.now.keeper.now) (g.K.Keeper.state c.keep_acts.new.keeper) (g.K.Keeper.leaves c.args.self.now.keeper.now) (g.K.Keeper.leaves c.keep_acts.new.keeper) c.keep_acts.ensures.any c.keep_acts.ensures.put _ c.in_err-keep_acts.field-0.0 c.in_err-keep_acts.ensures.fine c.in_err-keep_acts.ensures.failed c.in_err-keep_acts.ensures.halted)

pub returns-clause-took : goal.returns-clause-took
returns-clause-took g c = (
  c.in_ok-keep_acts.ensures.ready,
  step_took c.args.self.now.fingerprint.now c.args.core (g.K.Keeper.identity c.args.self.now.keeper.now) (g.K.Keeper.kept c.args.self.now.keeper.now) (turned_step (turn_of c.args.core.application c.args.core.state c.args.task)) c.as_slice-acts.result.now (turn_can c.args.self.now.fingerprint.now c.args.core (g.K.Keeper.identity c.args.self.now.keeper.now) (g.K.Keeper.kept c.args.self.now.keeper.now) c.requires.ready.1.running c.as_slice-acts.result.now c.acts_are_named.ensures.named c.steps_can_be_stored.ensures.turns c.args.task c.requires.task (c.as_slice-acts.ensures ∙ ap (λ (t : Turned). t.acts) c.in_ok-next.ensures.exact)) g.K.Keeper.stands g.K.Keeper.most_written g.K.Reopens.commit_most g.met.K.Reopens.commit_bounded g.K.Keeper.fine (c.args.self.now.keeper.ghost_name ∷ g.K.Keeper.place c.args.self.now.keeper.now) (c.args.self.now.keeper.ghost_name ∷ g.K.Keeper.place c.keep_acts.new.keeper) (ap (λ (l : List ℕ). c.args.self.now.keeper.ghost_name ∷ l) c.keep_acts.ensures.place) (g.K.Keeper.state c.args.self.now.keeper.now) (g.K.Keeper.state c.keep_acts.new.keeper) (g.K.Keeper.leaves c.args.self.now.keeper.now) (g.K.Keeper.leaves c.keep_acts.new.keeper) c.keep_acts.ensures.any c.keep_acts.ensures.put (g.met.K.Keeper.left_now c.keep_acts.new.keeper) c.steps_commit_once.ensures.tables (c.steps_commit_once.ensures.turns c.args.core.application c.args.core.state c.args.task) c.in_ok-next.next (g.K.Keeper.identity c.keep_acts.new.keeper) (g.K.Keeper.kept c.keep_acts.new.keeper) (g.K.Keeper.file c.keep_acts.new.keeper)
      c.in_ok-next.ensures.one.application c.in_ok-next.ensures.facts (ap (λ (t : Turned). t.after) c.in_ok-next.ensures.exact) c.keep_acts.ensures.identity c.in_ok-keep_acts.ensures.content c.in_ok-keep_acts.ensures.done
      c.args.self.now.commits _ c.count_commits.ensures,
)

pub returns-clause-turned : goal.returns-clause-turned
returns-clause-turned g c = did_turn c.args.core c.args.task c.in_ok-next.next c.in_ok-next.did c.in_ok-next.ensures.exact c.in_ok-next.ensures.one
