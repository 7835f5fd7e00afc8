-- The parts of a monitor that goes on stay sound, and its turns and commands meet the laws.
use Rattle.std.specs.Prelude.{◌≡◌, ℕ, List}
use Rattle.std.proofs.Common.{sym, subst, ap, ◌∙◌}
use Rattle.application_types.specs.Statements.{IsWithin}
use Rattle.kdcs_types.specs.declared.act.Act.{Act}
use Rattle.abstract_monitor.specs.State.{Application, State}
use Rattle.abstract_monitor.specs.declared.command.Command.{Command}
use Rattle.abstract_monitor.specs.Commands.{command_of, turned_step}
use Rattle.abstract_monitor.specs.Turns.{Turned, turn_of}
use Rattle.monitor_core.specs.Commanding.{Comes}
use Rattle.laws_of_states.specs.Applications.{IsApplication}
use Rattle.abstract_monitor.specs.CommandsOf.{IsCommandOf}
use Rattle.laws_of_states.specs.Replay.{SettlesAs}
use Rattle.laws_of_runs.specs.Access.{KeepsAccess, TurnsKeepAccess, CommandsKeepAccess}
use Rattle.laws_of_runs.specs.QueueLaws.{KeepsQueues, TurnsKeepQueues, CommandsKeepQueues}
use Rattle.laws_of_runs.specs.Replays.{AllReplay}
use Rattle.laws_of_runs.specs.SerialLaws.{HasReplays, IsSerialStep, StepsKeepReplays, ReplaysAreRecords, TurnsEndSerially, TurnsCommitSerially, CommandsCommitSerially}
use Rattle.service_ends.specs.declared.core_state.parts.MonitorParts.{MonitorParts}
use Rattle.service_ends.specs.Standing.{state_of}
use Rattle.service_ends.specs.Whole.{IsWhole, app_of}
use Rattle.monitor_core.specs.CoreValue.{CoreValue, core_value}
use Rattle.monitor_core.specs.Sound.{IsSound}
use Rattle.monitor_core.specs.Steps.{came_to}
use Rattle.monitor_core.proofs.SoundStart.{same_application}

-- ---- sound parts, and what a core with them is seen as

module _ (p : MonitorParts) (v : CoreValue) (is : core_value p ≡ v) (sound : IsSound p) where
  has_replays : HasReplays v.application v.state
  has_replays = subst (λ (u : CoreValue). HasReplays u.application u.state) is (sound.whole.facts, sound.replays)

  is_application : IsApplication v.application
  is_application = subst (λ (u : CoreValue). IsApplication u.application) is sound.whole.application

  same_after : (q : MonitorParts) → q.generation ≡ p.generation → q.units ≡ p.units → app_of q ≡ v.application
  same_after q generation units = same_application q p.generation p.units generation units ∙ ap (λ (u : CoreValue). u.application) is

  -- whole parts of the same application that came to a state whose transactions replay to themselves
  sound_after : (q : MonitorParts) (s : State) → q.generation ≡ p.generation → q.units ≡ p.units → state_of q ≡ s → HasReplays v.application s → IsWhole q → IsSound q
  sound_after q s generation units state replays whole = record {
    whole = whole;
    replays = subst (λ (app : Application). AllReplay app (state_of q)) (sym (same_after q generation units)) (subst (AllReplay v.application) (sym state) replays.1);
  }

-- ---- a turn

module _ (p : MonitorParts) (v : CoreValue) (is : core_value p ≡ v) (sound : IsSound p) (task : ℕ) (did : Turned) (exact : did ≡ turn_of (app_of p) (state_of p) task) where
  turned : turn_of v.application v.state task ≡ did
  turned = subst (λ (u : CoreValue). turn_of u.application u.state task ≡ did) is (sym exact)

  pub sound_turn : (q : MonitorParts) → StepsKeepReplays → IsWithin 1 v.application.generation.limits.tasks task
      → q.generation ≡ p.generation → q.units ≡ p.units → state_of q ≡ did.after → IsWhole q → IsSound q
  sound_turn q steps within generation units state whole =
      sound_after p v is sound q did.after generation units state
      (subst (λ (t : Turned). HasReplays v.application t.after) turned (steps.turns v.application v.state task (is_application p v is sound) within (has_replays p v is sound))) whole

  pub serial_turn : TurnsCommitSerially → IsSerialStep v.application v.state (turned_step did)
  serial_turn serial = subst (λ (t : Turned). IsSerialStep v.application v.state (turned_step t)) turned (serial v.application v.state task (has_replays p v is sound))

  pub queues_turn : TurnsKeepQueues → KeepsQueues v.application v.state (turned_step did)
  queues_turn queues = subst (λ (t : Turned). KeepsQueues v.application v.state (turned_step t)) turned (queues v.application v.state task (has_replays p v is sound).0)

  pub access_turn : TurnsKeepAccess → KeepsAccess v.application v.state (turned_step did)
  access_turn access = subst (λ (t : Turned). KeepsAccess v.application v.state (turned_step t)) turned (access v.application v.state task (has_replays p v is sound).0)

  pub ended_turn : TurnsEndSerially → ReplaysAreRecords → SettlesAs v.application v.state.tables did.after.tables did.settled
  ended_turn ends records =
      let replays = has_replays p v is sound in
      subst (λ (t : Turned). SettlesAs v.application v.state.tables t.after.tables t.settled) turned (ends v.application v.state task replays.0.0 (records v.application v.state replays.1))

-- ---- a command

module _ (p : MonitorParts) (v : CoreValue) (is : core_value p ≡ v) (sound : IsSound p) (c : Command) (s : State) (acts : List Act) (exact : Comes s acts (command_of (app_of p) (state_of p) c)) where
  came : Comes s acts (command_of v.application v.state c)
  came = subst (λ (u : CoreValue). Comes s acts (command_of u.application u.state c)) is exact

  same_step : command_of v.application v.state c ≡ came_to s acts (command_of v.application v.state c).by
  same_step = λ i. record { after = sym came.state i; acts = sym came.acts i; by = (command_of v.application v.state c).by }

  pub sound_command : (q : MonitorParts) → StepsKeepReplays → IsCommandOf v.application.generation c
      → q.generation ≡ p.generation → q.units ≡ p.units → state_of q ≡ s → IsWhole q → IsSound q
  sound_command q steps names generation units state whole =
      sound_after p v is sound q s generation units state
      (subst (HasReplays v.application) (sym came.state) (steps.commands v.application v.state c (is_application p v is sound) names (has_replays p v is sound))) whole

  pub serial_command : CommandsCommitSerially → IsSerialStep v.application v.state (came_to s acts (command_of v.application v.state c).by)
  serial_command serial = subst (IsSerialStep v.application v.state) same_step (serial v.application v.state c (has_replays p v is sound))

  pub queues_command : CommandsKeepQueues → KeepsQueues v.application v.state (came_to s acts (command_of v.application v.state c).by)
  queues_command queues = subst (KeepsQueues v.application v.state) same_step (queues v.application v.state c (has_replays p v is sound).0)

  pub access_command : CommandsKeepAccess → KeepsAccess v.application v.state (came_to s acts (command_of v.application v.state c).by)
  access_command access = subst (KeepsAccess v.application v.state) same_step (access v.application v.state c (has_replays p v is sound).0)
