-- A core and its store of one file, between two steps of a script.
use Rattle.std.specs.Prelude.{◌≡◌, ◌⊎◌, ℕ, ◌+◌, IsTrue, List, [], ◌∷◌, ◌++◌, take}
use Rattle.kd_device.specs.Device.{State, Only, Rose}
use Rattle.kd_records.specs.Identity.{Identity}
use Rattle.kd_records.specs.declared.content.Patch.{Patch}
use Rattle.kdcfile_layout.specs.Bound.{write_bound}
use Rattle.kdcfile_store.specs.Paged.{Paged}
use Rattle.kdcs_types.specs.declared.act.Act.{Act}
use Rattle.kdcs_types.specs.declared.act.Act.TheVariants.{Commit, Emit}
use Rattle.kdcs_types.specs.Tables.{TableRows}
use Rattle.application_types.specs.Soundness.{AreLimits}
use Rattle.abstract_monitor.specs.Bytes.{Bytes}
use Rattle.abstract_monitor.specs.declared.command.Command.{Command}
use Rattle.abstract_monitor.specs.declared.command.Command.TheVariants.{Restart}
use Rattle.abstract_monitor.specs.Commands.{ScriptStep, acts_of, state_after, steps_of}
use Rattle.abstract_monitor.specs.Trace.{history, tables_after, bytes_of}
use Rattle.laws_of_states.specs.Applications.{IsApplication}
use Rattle.laws_of_states.specs.Cut.{IsCut, SentBy}
use Rattle.laws_of_states.specs.Keeping.{HasFacts}
use Rattle.record_codec.specs.Records.{patch_of}
use Rattle.device_acts.specs.Stands.{StandsForTables, KeepsTables, identity_for}
use Rattle.monitor_core.specs.CoreSteps.{durable_of}
use Rattle.monitor_core.specs.CoreValue.{CoreValue}
use Rattle.device_acts.specs.Acting.{IsCutOf, WithinActs, WritesBegun}

-- what the file of this core was made with, from texts with this fingerprint
abbrev pub identity_of : (fingerprint : List ℕ) → CoreValue → Identity
identity_of fingerprint c = identity_for c.application.generation fingerprint

-- the state has its facts, under an application within its ranges, and the store keeps its durable tables
pub record IsRunning (fingerprint : List ℕ) (c : CoreValue) (store : Paged) : Type 0 where
  pub application : IsApplication c.application
  pub limits : AreLimits c.application.generation.limits
  pub facts : HasFacts c.application c.state
  pub keeps : KeepsTables (identity_of fingerprint c) store (durable_of c)

-- whatever became of some steps of the core: at each moment, what was sent and what a stop leaves are a cut of their acts
abbrev pub WithinSteps : (fingerprint : List ℕ) → CoreValue → List ScriptStep → (a b : State) → (la lb : ℕ → List ℕ → List ℕ → Type 0) → Type 0
WithinSteps fingerprint c steps a b la lb = WithinActs tables_after (StandsForTables (identity_of fingerprint c)) (durable_of c) (acts_of steps) a b la lb

-- how many bytes the commits of some acts write at most, by the bound of a patch in files that were made with this; a line writes none
abbrev pub commits_most_with : (Identity → Patch → ℕ) → Identity → List Act → ℕ
commits_most_with most i [] = 0
commits_most_with most i (Commit c ∷ acts) = most i (patch_of c) + commits_most_with most i acts
commits_most_with most i (Emit line ∷ acts) = commits_most_with most i acts

-- and where they are kept in one file
abbrev pub commits_most : Identity → List Act → ℕ
commits_most i acts = commits_most_with write_bound i acts

-- whatever became of some steps of the core: the bytes written are at most those of the commits that the file has, and of one that was begun
abbrev pub StepsWrite : (fingerprint : List ℕ) → CoreValue → List ScriptStep → (a b : State) → Type 0
StepsWrite fingerprint c steps a b = IsTrue a.told → WritesBegun tables_after (StandsForTables (identity_of fingerprint c)) (durable_of c) (commits_most (identity_of fingerprint c)) (acts_of steps) a b b.holds

-- some first acts of all were done, the image stands for the durable tables after them, and these bytes were sent beyond those before
pub record IsCutSince (stands : TableRows → Bytes → Type 0) (start : TableRows) (all : List Act) (sent image out : Bytes) : Type 0 where
  pub since : Bytes
  pub more : out ≡ sent ++ since
  pub cut : IsCut stands start all image since

-- all acts of the steps were done: their lines were sent, the file stands for the durable tables after them, and a stop leaves just it
pub record Ran (fingerprint : List ℕ) (c : CoreValue) (steps : List ScriptStep) (a b : State) (lb : ℕ → List ℕ → List ℕ → Type 0) : Type 0 where
  pub sent : b.sent ≡ a.sent ++ bytes_of (acts_of steps)
  pub holds : StandsForTables (identity_of fingerprint c) (tables_after (durable_of c) (acts_of steps)) b.holds
  pub at_rest : Only b.holds b lb

-- no byte was sent, or a call of the line failed
abbrev pub SaysNothing : (a b : State) → Type 0
SaysNothing a b = (b.sent ≡ a.sent) ⊎ Rose a.line_faults b.line_faults

-- some first acts were done, and their lines were sent beyond the bytes before, and perhaps a part of the line that is next
pub record SendsPart (acts : List Act) (sent out : Bytes) : Type 0 where
  pub since : Bytes
  pub more : out ≡ sent ++ since
  pub done : List Act
  pub left : List Act
  pub whole : acts ≡ done ++ left
  pub bytes : SentBy done left since

-- the acts of the first n commands of a script
abbrev pub acts_before : CoreValue → (script : List Command) → (n : ℕ) → List Act
acts_before c script n = acts_of (history c.application c.state (take n script))

-- the acts of a command that comes after these
abbrev pub acts_then : CoreValue → (script : List Command) → (n : ℕ) → Command → List Act
acts_then c script n command = acts_of (steps_of c.application (state_after c.state (history c.application c.state (take n script))) command)

-- a script stopped within the command that comes after the first n: these were done, and of its own acts some first ones; a RESTART sent nothing, unless a call of the line failed
pub record StoppedIn (stands : TableRows → Bytes → Type 0) (c : CoreValue) (script : List Command) (n : ℕ) (a b : State) (image : Bytes) : Type 0 where
  pub command : Command
  pub rest : List Command
  pub split : script ≡ take n script ++ command ∷ rest
  pub part : IsCutOf tables_after stands (tables_after (durable_of c) (acts_before c script n)) (acts_then c script n command) (a.sent ++ bytes_of (acts_before c script n)) image b.sent
  pub restart : command ≡ Restart → (b.sent ≡ a.sent ++ bytes_of (acts_before c script n)) ⊎ Rose a.line_faults b.line_faults

-- and so it is with the file
abbrev pub Stops : (fingerprint : List ℕ) → CoreValue → (script : List Command) → (n : ℕ) → (a b : State) → Type 0
Stops fingerprint c script n a b = IsTrue a.told → StoppedIn (StandsForTables (identity_of fingerprint c)) c script n a b b.holds
