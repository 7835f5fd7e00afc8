use Rattle.std.proofs.Common.{◌≡◌, ◌⊎◌, ◌<◌, ◌+◌, ◌^◌, ◌∙◌, arith, ap, subst, rules}
use Rattle.std.specs.Prelude.{Result, Ok, Err, IsErrAnd, IsErrOf}
use Rattle.kd_base.specs.ToolsLaws.{error_same}
use Rattle.kd_device.specs.Device.{Rose}
use Rattle.abstract_monitor.specs.Commands.{acts_of}
use Rattle.abstract_monitor.specs.Trace.{history}
use Rattle.laws_of_states.specs.Cut.{commits_in}
use Rattle.device_acts.specs.Acting.{LineOrDisk}
use Rattle.monitor_core.specs.ResultsLaws.{handed_on}
use Rattle.device_run.specs.Keeping.{DidSteps, StepsWriteWith, StopsWith, WithinStepsWith}
use Rattle.device_run.specs.StoringLaws.{steps_write}
use Rattle.device_run.proofs.Counting.{script_commits}
use Rattle.device_run.proofs.Stopping.{stopped_in}
use Rattle.device_run.proofs.script.run_on.Goals as goal

-- what was lent is given back
given : {A : Type 0} (P : A → Type 0) {x : A} → P x → (y : A) → x ≡ y → P y
given P h y is = subst P is h

-- an error that is handed on is not this one
other_cause : {T E : Type 0} (r : Result T E) (e v : E) → IsErrAnd r (λ y. y ≡ e) → (IsErrOf r v → ⊥) → e ≡ v → ⊥
other_cause (Ok x) e v gives none is = gives
other_cause (Err y) e v gives none is = none (ap (λ z. Err z) (gives ∙ is))

pub returns-in_err-last-clause-any : goal.returns-in_err-last-clause-any
returns-in_err-last-clause-any g c = given (λ k. WithinStepsWith g.K.Keeper.stands c.args.fingerprint.now c.args.core (history c.args.core.application c.args.core.state c.args.commands.now) (g.K.Keeper.state c.args.keeper.now) (g.K.Keeper.state k) (g.K.Keeper.leaves c.args.keeper.now) (g.K.Keeper.leaves k)) c.in_err-last.ensures.failed.within _ (let same = c.in_err-last.ensures.failed.same_place in search rules)

pub returns-in_err-last-clause-put : goal.returns-in_err-last-clause-put
returns-in_err-last-clause-put g c = given (λ k. StepsWriteWith g.K.Keeper.stands g.K.Reopens.commit_most c.args.fingerprint.now c.args.core (history c.args.core.application c.args.core.state c.args.commands.now) (g.K.Keeper.state c.args.keeper.now) (g.K.Keeper.state k) (g.K.Keeper.leaves k)) c.in_err-last.ensures.failed.put _ (let same = c.in_err-last.ensures.failed.same_place in search rules)

pub returns-in_err-last-clause-stopped : goal.returns-in_err-last-clause-stopped
returns-in_err-last-clause-stopped g c =
    handed_on _ c.from_residual.result c.in_err-last.field-0.0 c.from_residual.ensures.1
    (given (λ k. StopsWith g.K.Keeper.stands c.args.fingerprint.now c.args.core c.args.commands.now c.run_script.new.done (g.K.Keeper.state c.args.keeper.now) (g.K.Keeper.state k) (g.K.Keeper.leaves k))
    (λ told image left. stopped_in g.K.Keeper.stands g.K.Reopens.commit_most g.K.Keeper.fine _ _ _ _ _ _ c.in_err-last.ensures.stopped told (λ k. g.met.K.Keeper.file_stands k.keeper.now) (λ k. g.met.K.Keeper.sent_now k.keeper.now) (λ k. g.met.K.Keeper.earlier k.keeper.now) image left) _ (let same = c.in_err-last.ensures.failed.same_place in search rules))

pub returns-in_err-last-clause-fine : goal.returns-in_err-last-clause-fine
returns-in_err-last-clause-fine g c = λ none. given (λ k. g.K.Keeper.fine (g.K.Keeper.state c.args.keeper.now) (g.K.Keeper.state k)) (c.in_err-last.ensures.failed.went (other_cause c.from_residual.result c.in_err-last.field-0.0 _ c.from_residual.ensures.1 none)) _ (let same = c.in_err-last.ensures.failed.same_place in search rules)

pub returns-in_err-last-clause-failed : goal.returns-in_err-last-clause-failed
returns-in_err-last-clause-failed g c = λ is. given (λ k. Rose (g.K.Keeper.state c.args.keeper.now).disk_faults (g.K.Keeper.state k).disk_faults ⊎ Rose (g.K.Keeper.state c.args.keeper.now).line_faults (g.K.Keeper.state k).line_faults) (c.in_err-last.ensures.failed.failed (cc (error_same _ _ c.from_residual.result c.in_err-last.field-0.0 _ c.from_residual.ensures.1 is))) _ (let same = c.in_err-last.ensures.failed.same_place in search rules)

pub returns-in_err-last-clause-halted : goal.returns-in_err-last-clause-halted
returns-in_err-last-clause-halted g c = λ is. given (λ k. LineOrDisk (acts_of (history c.args.core.application c.args.core.state c.args.commands.now)) (g.K.Keeper.state c.args.keeper.now) (g.K.Keeper.state k)) (c.in_err-last.ensures.failed.halted (cc (error_same _ _ c.from_residual.result c.in_err-last.field-0.0 _ c.from_residual.ensures.1 is))) _ (let same = c.in_err-last.ensures.failed.same_place in search rules)

pub returns-in_err-last-clause-place : goal.returns-in_err-last-clause-place
returns-in_err-last-clause-place g c = given (λ k. g.K.Keeper.place k ≡ g.K.Keeper.place c.args.keeper.now) {x = c.run_script.new.sink.keeper.now} (cc c.in_err-last.ensures.failed.same_place) _ (let same = c.in_err-last.ensures.failed.same_place in search rules)

pub returns-clause-any : goal.returns-clause-any
returns-clause-any g c = given (λ k. WithinStepsWith g.K.Keeper.stands c.args.fingerprint.now c.args.core (history c.args.core.application c.args.core.state c.args.commands.now) (g.K.Keeper.state c.args.keeper.now) (g.K.Keeper.state k) (g.K.Keeper.leaves c.args.keeper.now) (g.K.Keeper.leaves k)) c.in_ok-last.ensures.took.1.within _ (let same = c.in_ok-last.ensures.took.1.same_place in search rules)

pub returns-clause-put : goal.returns-clause-put
returns-clause-put g c = given (λ k. StepsWriteWith g.K.Keeper.stands g.K.Reopens.commit_most c.args.fingerprint.now c.args.core (history c.args.core.application c.args.core.state c.args.commands.now) (g.K.Keeper.state c.args.keeper.now) (g.K.Keeper.state k) (g.K.Keeper.leaves k)) (steps_write g.K.Keeper.stands g.K.Reopens.commit_most g.K.Keeper.fine g.met.K.Keeper.fine_goes c.args.fingerprint.now c.args.core _ (history c.args.core.application c.args.core.state c.args.commands.now) _ _ _ _ _ _ (g.met.K.Keeper.file_stands c.run_script.new.sink.keeper.now) c.in_ok-last.ensures.took.1.did c.in_ok-last.ensures.took.1.put) _ (let same = c.in_ok-last.ensures.took.1.same_place in search rules)

pub returns-clause-ready : goal.returns-clause-ready
returns-clause-ready g c = given (λ k. g.K.Keeper.ready k) c.in_ok-last.ensures.took.0 _ (let same = c.in_ok-last.ensures.took.1.same_place in search rules)

pub returns-clause-did : goal.returns-clause-did
returns-clause-did g c = given (λ k. DidSteps g.K.Keeper.fine c.args.fingerprint.now c.args.core (history c.args.core.application c.args.core.state c.args.commands.now) c.in_ok-last.last (g.K.Keeper.identity k) (g.K.Keeper.kept k) (g.K.Keeper.file k) (g.K.Keeper.state c.args.keeper.now) (g.K.Keeper.state k) (g.K.Keeper.leaves k)) c.in_ok-last.ensures.took.1.did _ (let same = c.in_ok-last.ensures.took.1.same_place in search rules)

pub returns-clause-counted : goal.returns-clause-counted
returns-clause-counted g c = λ told.
    let most = script_commits c.steps_commit_once.ensures.turns c.steps_commit_once.ensures.commands c.args.core.application c.args.core.state c.args.commands.now in
    let few : 0 + commits_in (acts_of (history c.args.core.application c.args.core.state c.args.commands.now)) < 2 ^ 64 = omega (arith, most, c.requires.steps) in
    let is = c.in_ok-last.ensures.took.1.counted told few in
    omega (arith, is)

pub returns-clause-fine : goal.returns-clause-fine
returns-clause-fine g c = λ none. given (λ k. g.K.Keeper.fine (g.K.Keeper.state c.args.keeper.now) (g.K.Keeper.state k)) c.in_ok-last.ensures.took.1.did.acts.calls _ (let same = c.in_ok-last.ensures.took.1.same_place in search rules)

pub returns-clause-place : goal.returns-clause-place
returns-clause-place g c = given (λ k. g.K.Keeper.place k ≡ g.K.Keeper.place c.args.keeper.now) {x = c.run_script.new.sink.keeper.now} (cc c.in_ok-last.ensures.took.1.same_place) _ (let same = c.in_ok-last.ensures.took.1.same_place in search rules)
