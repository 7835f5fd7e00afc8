use Rattle.std.proofs.Common.{ℕ, List, ap, ◌∙◌, ◌∷◌, []}
use Rattle.abstract_monitor.specs.Commands.{command_of}
use Rattle.monitor_core.specs.ResultsLaws.{handed_on}
use Rattle.device_run.specs.SteppingLaws.{can_act}
use Rattle.device_run.proofs.Acting.{nothing_done, ready_stands, step_failed, step_took}
use Rattle.device_run.proofs.Storables.{command_can}
use Rattle.device_run.proofs.storing.StoringSink.apply.Goals as goal

pub keep_acts-requires-clause-can : goal.keep_acts-requires-clause-can
keep_acts-requires-clause-can g c = can_act c.args.self.now.fingerprint.now c.args.core (g.K.Keeper.identity c.args.self.now.keeper.now) (g.K.Keeper.kept c.args.self.now.keeper.now) (command_of c.args.core.application c.args.core.state c.args.command.now) c.as_slice-acts.result.now (command_can c.args.self.now.fingerprint.now c.args.core (g.K.Keeper.identity c.args.self.now.keeper.now) (g.K.Keeper.kept c.args.self.now.keeper.now) c.requires.ready.1.running c.as_slice-acts.result.now c.acts_are_named.ensures.named c.steps_can_be_stored.ensures.commands c.args.command.now c.requires.names (c.as_slice-acts.ensures ∙ c.in_ok-next.ensures.exact.acts))

pub returns-in_err-next-clause-failed : goal.returns-in_err-next-clause-failed
returns-in_err-next-clause-failed g c =
    handed_on _ c.from_residual.result _ c.from_residual.ensures.1
    (nothing_done g.K.Keeper.stands g.K.Reopens.commit_most c.args.self.now.fingerprint.now c.args.core ((command_of c.args.core.application c.args.core.state c.args.command.now) ∷ []) (g.K.Keeper.state c.args.self.now.keeper.now) (g.K.Keeper.leaves c.args.self.now.keeper.now)
    (ready_stands g.K.Keeper.stands c.args.self.now.fingerprint.now c.args.core (g.K.Keeper.identity c.args.self.now.keeper.now) (g.K.Keeper.kept c.args.self.now.keeper.now) (g.K.Keeper.file c.args.self.now.keeper.now) (g.K.Keeper.state c.args.self.now.keeper.now) (g.K.Keeper.leaves c.args.self.now.keeper.now) (g.met.K.Keeper.file_stands c.args.self.now.keeper.now) c.requires.ready.1)
    g.K.Keeper.fine g.met.K.Keeper.fine_goes (c.args.self.now.keeper.ghost_name ∷ g.K.Keeper.place c.args.self.now.keeper.now))

pub returns-in_err-keep_acts-clause-failed : goal.returns-in_err-keep_acts-clause-failed
returns-in_err-keep_acts-clause-failed g c =
    handed_on _ c.from_residual-in_err-keep_acts.result _ c.from_residual-in_err-keep_acts.ensures.1
    (step_failed c.args.self.now.fingerprint.now c.args.core (g.K.Keeper.identity c.args.self.now.keeper.now) (g.K.Keeper.kept c.args.self.now.keeper.now) (command_of c.args.core.application c.args.core.state c.args.command.now) c.as_slice-acts.result.now (command_can c.args.self.now.fingerprint.now c.args.core (g.K.Keeper.identity c.args.self.now.keeper.now) (g.K.Keeper.kept c.args.self.now.keeper.now) c.requires.ready.1.running c.as_slice-acts.result.now c.acts_are_named.ensures.named c.steps_can_be_stored.ensures.commands c.args.command.now c.requires.names (c.as_slice-acts.ensures ∙ c.in_ok-next.ensures.exact.acts)) g.K.Keeper.stands g.K.Keeper.most_written g.K.Reopens.commit_most g.met.K.Reopens.commit_bounded g.K.Keeper.fine (c.args.self.now.keeper.ghost_name ∷ g.K.Keeper.place c.args.self.now.keeper.now) (c.args.self.now.keeper.ghost_name ∷ g.K.Keeper.place c.keep_acts.new.keeper) (ap (λ (l : List ℕ). c.args.self.now.keeper.ghost_name ∷ l) c.keep_acts.ensures.place) (g.K.Keeper.state c.args.self.now.keeper.now) (g.K.Keeper.state c.keep_acts.new.keeper) (g.K.Keeper.leaves c.args.self.now.keeper.now) (g.K.Keeper.leaves c.keep_acts.new.keeper) c.keep_acts.ensures.any c.keep_acts.ensures.put _ c.in_err-keep_acts.field-0.0 c.in_err-keep_acts.ensures.fine c.in_err-keep_acts.ensures.failed c.in_err-keep_acts.ensures.halted)

pub returns-clause-took : goal.returns-clause-took
returns-clause-took g c = (
  c.in_ok-keep_acts.ensures.ready,
  step_took c.args.self.now.fingerprint.now c.args.core (g.K.Keeper.identity c.args.self.now.keeper.now) (g.K.Keeper.kept c.args.self.now.keeper.now) (command_of c.args.core.application c.args.core.state c.args.command.now) c.as_slice-acts.result.now (command_can c.args.self.now.fingerprint.now c.args.core (g.K.Keeper.identity c.args.self.now.keeper.now) (g.K.Keeper.kept c.args.self.now.keeper.now) c.requires.ready.1.running c.as_slice-acts.result.now c.acts_are_named.ensures.named c.steps_can_be_stored.ensures.commands c.args.command.now c.requires.names (c.as_slice-acts.ensures ∙ c.in_ok-next.ensures.exact.acts)) g.K.Keeper.stands g.K.Keeper.most_written g.K.Reopens.commit_most g.met.K.Reopens.commit_bounded g.K.Keeper.fine (c.args.self.now.keeper.ghost_name ∷ g.K.Keeper.place c.args.self.now.keeper.now) (c.args.self.now.keeper.ghost_name ∷ g.K.Keeper.place c.keep_acts.new.keeper) (ap (λ (l : List ℕ). c.args.self.now.keeper.ghost_name ∷ l) c.keep_acts.ensures.place) (g.K.Keeper.state c.args.self.now.keeper.now) (g.K.Keeper.state c.keep_acts.new.keeper) (g.K.Keeper.leaves c.args.self.now.keeper.now) (g.K.Keeper.leaves c.keep_acts.new.keeper) c.keep_acts.ensures.any c.keep_acts.ensures.put (g.met.K.Keeper.left_now c.keep_acts.new.keeper) c.steps_commit_once.ensures.tables (c.steps_commit_once.ensures.commands c.args.core.application c.args.core.state c.args.command.now) c.in_ok-next.next (g.K.Keeper.identity c.keep_acts.new.keeper) (g.K.Keeper.kept c.keep_acts.new.keeper) (g.K.Keeper.file c.keep_acts.new.keeper)
      c.in_ok-next.ensures.one.application c.in_ok-next.ensures.facts c.in_ok-next.ensures.exact.state c.keep_acts.ensures.identity c.in_ok-keep_acts.ensures.content c.in_ok-keep_acts.ensures.done
      c.args.self.now.commits _ c.count_commits.ensures,
)
