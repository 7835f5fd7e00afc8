-- A core and what keeps its tables, between two steps of a script: in one file or in several.
use Rattle.std.specs.Prelude.{◌≡◌, ℕ, IsTrue, List, ◌++◌}
use Rattle.kd_device.specs.Device.{State, LeavesOnly}
use Rattle.kd_records.specs.Identity.{Identity}
use Rattle.kd_records.specs.declared.content.Content.{Content}
use Rattle.kd_records.specs.declared.content.Patch.{Patch}
use Rattle.kdcs_types.specs.Tables.{TableRows}
use Rattle.application_types.specs.Soundness.{AreLimits}
use Rattle.application_types.specs.Generation.{Generated}
use Rattle.abstract_monitor.specs.declared.command.Command.{Command}
use Rattle.abstract_monitor.specs.Commands.{ScriptStep, acts_of, started, state_after}
use Rattle.abstract_monitor.specs.Trace.{tables_after, bytes_of}
use Rattle.laws_of_states.specs.Applications.{IsApplication}
use Rattle.laws_of_states.specs.Keeping.{HasFacts}
use Rattle.laws_of_states.specs.Suits.{Suits}
use Rattle.record_codec.specs.Records.{content_of_tables}
use Rattle.device_acts.specs.Stands.{AreTables, identity_for}
use Rattle.monitor_core.specs.CoreSteps.{durable_of}
use Rattle.monitor_core.specs.CoreValue.{CoreValue}
use Rattle.device_acts.specs.Acting.{IsKeptBy, DidActs, WithinActs, WritesWithin}
use Rattle.device_acts.specs.Said.{SameDisk}
use Rattle.device_run.specs.Running.{StoppedIn, commits_most_with, identity_of}

-- files that were made with j and keep a content: they were made with i, and their records are the rows of these tables
pub record KeepsRows (i j : Identity) (x : Content) (t : TableRows) : Type 0 where
  pub identity_is : j ≡ i
  pub tables : AreTables t
  pub content : x ≡ content_of_tables t

-- and an application starts from them
pub record KeepsSuited (g : Generated) (fingerprint : List ℕ) (j : Identity) (x : Content) (t : TableRows) : Type 0 where
  pub keeps : KeepsRows (identity_for g fingerprint) j x t
  pub suits : Suits g t

-- an image stands for the records that are the rows of these tables
pub record StandsForRows (stands : Identity → Content → List ℕ → Type 0) (i : Identity) (t : TableRows) (image : List ℕ) : Type 0 where
  pub tables : AreTables t
  pub content : stands i (content_of_tables t) image

-- the state has its facts, under an application within its ranges, and files that were made with this keep its durable tables
pub record IsRunningWith (fingerprint : List ℕ) (c : CoreValue) (i : Identity) (x : Content) : Type 0 where
  pub application : IsApplication c.application
  pub limits : AreLimits c.application.generation.limits
  pub facts : HasFacts c.application c.state
  pub keeps : KeepsRows (identity_of fingerprint c) i x (durable_of c)

-- whatever became of some steps of the core: at each moment, what was sent and what a stop leaves are a cut of their acts
abbrev pub WithinStepsWith : (stands : Identity → Content → List ℕ → Type 0) → (fingerprint : List ℕ) → CoreValue → List ScriptStep → (a b : State) → (la lb : ℕ → List ℕ → List ℕ → Type 0) → Type 0
WithinStepsWith stands fingerprint c steps a b la lb = WithinActs tables_after (StandsForRows stands (identity_of fingerprint c)) (durable_of c) (acts_of steps) a b la lb

-- whatever became of some steps of the core: the bytes written are at most those of the commits that the files have, and of one that was begun
abbrev pub StepsWriteWith : (stands : Identity → Content → List ℕ → Type 0) → (most : Identity → Patch → ℕ) → (fingerprint : List ℕ) → CoreValue → List ScriptStep → (a b : State) → (lb : ℕ → List ℕ → List ℕ → Type 0) → Type 0
StepsWriteWith stands most fingerprint c steps a b lb = WritesWithin tables_after (StandsForRows stands (identity_of fingerprint c)) (durable_of c) (commits_most_with most (identity_of fingerprint c)) (acts_of steps) a b lb

-- the core came to the state after some steps, files that were made with j keep its tables, and all their acts are done
pub record DidSteps (fine : State → State → Type 0) (fingerprint : List ℕ) (c : CoreValue) (steps : List ScriptStep) (d : CoreValue) (j : Identity) (x : Content) (file : List ℕ → Type 0) (a b : State) (lb : ℕ → List ℕ → List ℕ → Type 0) : Type 0 where
  pub application : d.application ≡ c.application
  pub running : IsRunningWith fingerprint d j x
  pub state : IsTrue a.told → d.state ≡ state_after c.state steps
  pub tables : IsTrue a.told → durable_of d ≡ tables_after (durable_of c) (acts_of steps)
  pub acts : DidActs fine file (acts_of steps) a b lb

-- nothing was sent, what is seen of the files is the same, and a stop leaves none but these images
pub record Reopening (file : List ℕ → Type 0) (a b : State) (la lb : ℕ → List ℕ → List ℕ → Type 0) : Type 0 where
  pub disk : SameDisk a b
  pub sent : b.sent ≡ a.sent
  pub leaves : LeavesOnly a b la lb (λ image out. (out ≡ a.sent) × file image)

-- the core is one that starts from the durable tables, which files that were made with j keep, a stop leaves no image but theirs, and the calls were fine
pub record IsAgain (fine : State → State → Type 0) (fingerprint : List ℕ) (c d : CoreValue) (j : Identity) (x : Content) (file : List ℕ → Type 0) (a b : State) (lb : ℕ → List ℕ → List ℕ → Type 0) : Type 0 where
  pub application : d.application ≡ c.application
  pub running : IsRunningWith fingerprint d j x
  pub steps : d.steps ≡ 0
  pub state : IsTrue a.told → d.state ≡ started c.application (durable_of c)
  pub tables : IsTrue a.told → durable_of d ≡ durable_of c
  pub kept : IsTrue a.told → IsKeptBy file b lb
  pub calls : fine a b

-- all acts of the steps were done: their lines were sent, files that were made with j keep the durable tables after them, and a stop leaves no image but theirs
pub record RanWith (fingerprint : List ℕ) (c : CoreValue) (steps : List ScriptStep) (j : Identity) (x : Content) (file : List ℕ → Type 0) (a b : State) (lb : ℕ → List ℕ → List ℕ → Type 0) : Type 0 where
  pub sent : b.sent ≡ a.sent ++ bytes_of (acts_of steps)
  pub keeps : KeepsRows (identity_of fingerprint c) j x (tables_after (durable_of c) (acts_of steps))
  pub at_rest : IsKeptBy file b lb

-- a script stopped within the command that comes after the first n, with each image that a stop now leaves
abbrev pub StopsWith : (stands : Identity → Content → List ℕ → Type 0) → (fingerprint : List ℕ) → CoreValue → (script : List Command) → (n : ℕ) → (a b : State) → (lb : ℕ → List ℕ → List ℕ → Type 0) → Type 0
StopsWith stands fingerprint c script n a b lb = IsTrue a.told → (image : List ℕ) → lb b.moment image b.sent → StoppedIn (StandsForRows stands (identity_of fingerprint c)) c script n a b image
