-- What a line comes to that was read.
use Rattle.std.specs.Prelude.{◌≡◌, ◌⊎◌, ℕ, Bool, IsTrue, List, [], ◌∷◌, Result, IfOk, OnErr, IsErrOf}
use Rattle.kd_device.specs.Device.{State, Rose}
use Rattle.kd_records.specs.Identity.{Identity}
use Rattle.kd_records.specs.declared.content.Content.{Content}
use Rattle.kd_records.specs.declared.content.Patch.{Patch}
use Rattle.kdcs_types.specs.declared.act.Act.{Act}
use Rattle.kdcs_types.specs.declared.act.Act.TheVariants.{Emit}
use Rattle.abstract_monitor.specs.State.{State as MonitorState}
use Rattle.abstract_monitor.specs.Trace.{tables_after}
use Rattle.abstract_monitor.specs.declared.command.Command.{Command}
use Rattle.abstract_monitor.specs.declared.command.Command.TheVariants.{Restart}
use Rattle.monitor_core.specs.CoreSteps.{durable_of}
use Rattle.monitor_core.specs.CoreValue.{CoreValue}
use Rattle.device_acts.specs.Acting.{DidActs, LineOrDisk, WithinActs, WritesWithin}
use Rattle.device_run.specs.Running.{SaysNothing, commits_most_with, identity_of}
use Rattle.device_run.specs.Keeping.{IsRunningWith, StandsForRows}
use Rattle.live_run.specs.declared.error.LiveError.{LiveError}
use Rattle.live_run.specs.declared.error.LiveError.TheVariants.{Failed, NotKdcfile, OtherGeneration, Input}
use Rattle.typed_lines.specs.declared.typed.Question.{Question}
use Rattle.live_run.specs.Answers.{Answers, IsAnswer}
use Rattle.live_run.specs.Sessions.{Session, acts_of_line, commands_of_line, session_after}

-- between two lines
abbrev pub session_at : CoreValue → (auto : Bool) → (number : ℕ) → Session
session_at c auto number = record { state = c.state; auto = auto; number = number }

-- the core came to this state, files that were made with j keep its tables, and all these acts are done
pub record DidSession (fine : State → State → Type 0) (fingerprint : List ℕ) (c : CoreValue) (done : List Act) (s : MonitorState) (d : CoreValue) (j : Identity) (y : Content) (file : List ℕ → Type 0) (a b : State) (lb : ℕ → List ℕ → List ℕ → Type 0) : Type 0 where
  pub application : d.application ≡ c.application
  pub running : IsRunningWith fingerprint d j y
  pub state : IsTrue a.told → d.state ≡ s
  pub tables : IsTrue a.told → durable_of d ≡ tables_after (durable_of c) done
  pub acts : DidActs fine file done a b lb

-- whatever became of some acts of a core: a cut of them is done, or all; the bytes written are at most those of their commits that the files have, and of one that was begun; and what is known of each error
pub record TookActs (stands : Identity → Content → List ℕ → Type 0) (most : Identity → Patch → ℕ) (fine : State → State → Type 0) (fingerprint : List ℕ) (c : CoreValue) (acts : List Act) (s : MonitorState) (j : Identity) (y : Content) (file : List ℕ → Type 0) (a b : State) (la lb : ℕ → List ℕ → List ℕ → Type 0) (result : Result CoreValue LiveError) : Type 0 where
  pub within : WithinActs tables_after (StandsForRows stands (identity_of fingerprint c)) (durable_of c) acts a b la lb
  pub written : WritesWithin tables_after (StandsForRows stands (identity_of fingerprint c)) (durable_of c) (commits_most_with most (identity_of fingerprint c)) acts a b lb
  pub done : IfOk result (λ d. DidSession fine fingerprint c acts s d j y file a b lb)
  pub went : (IsErrOf result Failed → ⊥) → fine a b
  pub failed : IsErrOf result Failed → Rose a.disk_faults b.disk_faults ⊎ Rose a.line_faults b.line_faults
  pub halted : IsErrOf result Failed → LineOrDisk acts a b
  pub refused : IsErrOf result NotKdcfile → IsTrue a.told → ⊥
  pub other : (stored : List ℕ) → IsErrOf result (OtherGeneration stored) → IsTrue a.told → ⊥
  pub no_input : IsErrOf result Input → ⊥

-- a RESTART that was not done sent nothing, unless the line failed: its line comes after the files were opened again
abbrev pub RestartsFirst : List Command → (a b : State) → Result CoreValue LiveError → Type 0
RestartsFirst commands a b result = OnErr result (IsTrue a.told → commands ≡ Restart ∷ [] → SaysNothing a b)

-- whatever became of a question: an answer to it, which is sent
pub record TookAnswer (stands : Identity → Content → List ℕ → Type 0) (most : Identity → Patch → ℕ) (fine : State → State → Type 0) (fingerprint : List ℕ) (c : CoreValue) (question : Question) (line : List ℕ) (j : Identity) (y : Content) (file : List ℕ → Type 0) (a b : State) (la lb : ℕ → List ℕ → List ℕ → Type 0) (result : Result CoreValue LiveError) : Type 0 where
  pub answer : List ℕ
  pub answered : Answers c.state line answer question
  pub took : TookActs stands most fine fingerprint c (Emit answer ∷ []) c.state j y file a b la lb result

-- whatever became of a line: an answer of it, and its acts
pub record TookLine (stands : Identity → Content → List ℕ → Type 0) (most : Identity → Patch → ℕ) (fine : State → State → Type 0) (fingerprint : List ℕ) (c : CoreValue) (auto : Bool) (number : ℕ) (line : List ℕ) (j : Identity) (y : Content) (file : List ℕ → Type 0) (a b : State) (la lb : ℕ → List ℕ → List ℕ → Type 0) (result : Result CoreValue LiveError) : Type 0 where
  pub answer : List ℕ
  pub answered : IsAnswer c.state line answer
  pub took : TookActs stands most fine fingerprint c (acts_of_line c.application (session_at c auto number) line answer) (session_after c.application (session_at c auto number) line).state j y file a b la lb result
  pub restart : RestartsFirst (commands_of_line c.application (session_at c auto number) line) a b result
