-- Acts over two copies, with the lines of the copies before and behind them.
use Rattle.std.specs.Prelude.{◌≡◌, ◌⊎◌, ◌≤◌, ℕ, IsTrue, List, [], ◌∷◌, ◌++◌, codes, Option, Some, None}
use Rattle.kd_device.specs.Device.{LeavesOnly, Rose}
use Rattle.kd_records.specs.Identity.{Identity}
use Rattle.kd_device.specs.Twin.{Both, disk_of, half_leaves, half_state}
use Rattle.kd_device.specs.declared.half.Half.{Half}
use Rattle.kd_device.specs.declared.half.Half.TheVariants.{First, Second}
use Rattle.application_types.specs.Soundness.{AreLimits}
use Rattle.kdcs_types.specs.Tables.{TableRows}
use Rattle.kdcs_types.specs.declared.act.Act.{Act}
use Rattle.kdcs_types.specs.declared.act.Act.TheVariants.{Emit}
use Rattle.abstract_monitor.specs.Trace.{bytes_of, tables_after}
use Rattle.laws_of_states.specs.Applications.{IsApplication}
use Rattle.laws_of_states.specs.Cut.{SentBy}
use Rattle.laws_of_states.specs.Keeping.{HasFacts}
use Rattle.record_codec.specs.Records.{content_of_tables}
use Rattle.device_acts.specs.Stands.{AreTables}
use Rattle.monitor_core.specs.CoreSteps.{durable_of}
use Rattle.monitor_core.specs.CoreValue.{CoreValue}
use Rattle.kdcfile_copies.specs.Copies.{IsCopyOf}
use Rattle.kdcfile_copies.specs.Beside.{LeavesPairs}
use Rattle.kdcfile_double.specs.Opening.{IsChosenTables, KeepsTablesTwice, identity_twice}
use Rattle.kdcfile_double.specs.Twice.{IsInUse, RoseAt, SameFaultsAt, Twice}

-- the line of a half that was written anew from the other one
abbrev pub mended_line : Half → List ℕ
mended_line First = codes "COPY A MENDED\n"
mended_line Second = codes "COPY B MENDED\n"

-- the line of a half that is used no more
abbrev pub lost_line : Half → List ℕ
lost_line First = codes "COPY A LOST\n"
lost_line Second = codes "COPY B LOST\n"

abbrev pub lines_for : (Half → List ℕ) → Option Half → List Act
lines_for line None = []
lines_for line (Some half) = Emit (line half) ∷ []

-- the acts of a run with the lines of the copies: which half was mended comes first, and which is lost comes last
abbrev pub with_copies : (mended : Option Half) → List Act → (lost : Option Half) → List Act
with_copies mended acts lost = lines_for mended_line mended ++ (acts ++ lines_for lost_line lost)

-- the copy that counts has these tables
abbrev pub CountsAs : Identity → TableRows → (c d : List ℕ) → Type 0
CountsAs i t c d = (n : ℕ) × IsChosenTables i n t c d

-- the bytes are a copy of these tables, whatever its sequence
pub record IsCopyOfTables (i : Identity) (t : TableRows) (bytes : List ℕ) : Type 0 where
  pub tables : AreTables t
  pub copy : (n : ℕ) × IsCopyOf i n (content_of_tables t) bytes

-- a half that was lost before, or on which a call failed since
abbrev pub MayBeLost : Twice → Both → Both → Option Half → Type 0
MayBeLost s a b lost = (half : Half) → lost ≡ Some half → (s.lost ≡ Some half) ⊎ RoseAt half a b

-- some first acts were done, with the lines of the copies, and files have the tables after them; these bytes were sent beyond those before
pub record IsCutTwice (keeps : TableRows → Type 0) (s : Twice) (t : TableRows) (acts : List Act) (a b : Both) (out : List ℕ) : Type 0 where
  pub lost : Option Half
  pub lost_may : MayBeLost s a b lost
  pub since : List ℕ
  pub more : out ≡ a.sent ++ since
  pub done : List Act
  pub left : List Act
  pub whole : with_copies s.mended acts lost ≡ done ++ left
  pub files : keeps (tables_after t done)
  pub bytes : SentBy done left since

-- what no call changes or lowers
pub record FrameTwice (a b : Both) : Type 0 where
  pub told : b.told ≡ a.told
  pub first_faults : a.first.disk_faults ≤ b.first.disk_faults
  pub second_faults : a.second.disk_faults ≤ b.second.disk_faults
  pub line_faults : a.line_faults ≤ b.line_faults
  pub moment : a.moment ≤ b.moment
  pub first_names : IsTrue a.told → b.first.names ≡ a.first.names
  pub second_names : IsTrue a.told → b.second.names ≡ a.second.names

-- whatever became of the acts: at each moment, what was sent and the copy that counts are a cut of them, and so is each half in use by itself while no call on it failed
pub record WithinTwice (i : Identity) (s : Twice) (t : TableRows) (acts : List Act) (a b : Both) (la lb : ℕ → List ℕ → List ℕ → List ℕ → Type 0) : Type 0 where
  pub frame : FrameTwice a b
  pub pairs : IsTrue a.told → LeavesPairs a b la lb (λ c d out. IsCutTwice (λ u. CountsAs i u c d) s t acts a b out)
  pub halves : IsTrue a.told → (half : Half) → IsInUse half s → (RoseAt half a b → ⊥) → LeavesOnly (half_state half a) (half_state half b) (half_leaves half la) (half_leaves half lb) (λ c out. IsCutTwice (λ u. IsCopyOfTables i u c) s t acts a b out)

-- the half has the last copy, and a stop leaves just that; no call on it failed
pub record IsLastCopy (i : Identity) (half : Half) (t : TableRows) (a b : Both) (lb : ℕ → List ℕ → List ℕ → List ℕ → Type 0) : Type 0 where
  pub same : SameFaultsAt half a b
  pub holds : IsCopyOfTables i t (disk_of half b).holds
  pub at_rest : (c : List ℕ) → half_leaves half lb b.moment c b.sent → c ≡ (disk_of half b).holds

-- all acts were done, with the lines of the copies: a half that was in use has the last copy, or is lost; and whatever files a stop leaves of both, the copy that counts has the last tables
pub record RanTwice (i : Identity) (s : Twice) (t : TableRows) (acts : List Act) (a b : Both) (lb : ℕ → List ℕ → List ℕ → List ℕ → Type 0) : Type 0 where
  pub lost : Option Half
  pub lost_may : MayBeLost s a b lost
  pub lost_stays : (half : Half) → s.lost ≡ Some half → lost ≡ Some half
  pub sent : b.sent ≡ a.sent ++ bytes_of (with_copies s.mended acts lost)
  pub counts : CountsAs i (tables_after t acts) b.first.holds b.second.holds
  pub counts_after : (c d : List ℕ) → lb b.moment c d b.sent → CountsAs i (tables_after t acts) c d
  pub copies : (half : Half) → IsInUse half s → (lost ≡ Some half) ⊎ IsLastCopy i half (tables_after t acts) a b lb

-- a call of the line failed, or calls on all halves in use
abbrev pub FailsTwice : Twice → Both → Both → Type 0
FailsTwice s a b = Rose a.line_faults b.line_faults ⊎ ((half : Half) → IsInUse half s → RoseAt half a b)

-- the state has its facts, under an application within its ranges, and the copies keep its durable tables
pub record IsRunningTwice (fingerprint : List ℕ) (c : CoreValue) (s : Twice) : Type 0 where
  pub application : IsApplication c.application
  pub limits : AreLimits c.application.generation.limits
  pub facts : HasFacts c.application c.state
  pub keeps : KeepsTablesTwice (identity_twice c.application.generation fingerprint) s (durable_of c)
