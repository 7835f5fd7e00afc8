-- Parts of a run over two copies: a line alone, and acts of which the copies are kept.
use Rattle.std.specs.Prelude.{◌≡◌, ℕ, IsTrue, List, [], ◌++◌, Option}
use Rattle.kd_device.specs.Device.{Frame, LeavesOnly}
use Rattle.kd_records.specs.Identity.{Identity}
use Rattle.kd_device.specs.Twin.{Both, half_leaves, half_state}
use Rattle.kd_device.specs.declared.half.Half.{Half}
use Rattle.kdcs_types.specs.Tables.{TableRows}
use Rattle.kdcs_types.specs.declared.act.Act.{Act}
use Rattle.abstract_monitor.specs.Trace.{bytes_of, tables_after}
use Rattle.kdcfile_copies.specs.Beside.{LeavesPairs, LeavesSamePairs, SameDisk}
use Rattle.kdcfile_double.specs.Opening.{KeepsTablesTwice}
use Rattle.kdcfile_double.specs.Twice.{IsInUse, IsKeptTwice, IsTwice, RoseAt, Twice}
use Rattle.device_acts.specs.Acting.{IsCutOf}
use Rattle.device_run.specs.Running.{SendsPart}
use Rattle.twin_run.specs.Keeping.{CopiesSince}
use Rattle.twin_run.specs.Running.{CountsAs, FrameTwice, IsCopyOfTables}

-- some first acts were done, files have the tables after them, and these bytes were sent beyond those before
abbrev pub IsCutOfTables : (keeps : TableRows → Type 0) → TableRows → List Act → (sent out : List ℕ) → Type 0
IsCutOfTables keeps t acts sent out = IsCutOf tables_after (λ u image. keeps u) t acts sent [] out

-- whatever became of some acts: at each moment, what was sent and the copy that counts are a cut of them, and so is each half in use by itself while no call on it failed
pub record PartTwice (i : Identity) (s : Twice) (t : TableRows) (acts : List Act) (a b : Both) (la lb : ℕ → List ℕ → List ℕ → List ℕ → Type 0) : Type 0 where
  pub frame : FrameTwice a b
  pub pairs : IsTrue a.told → LeavesPairs a b la lb (λ c d out. IsCutOfTables (λ u. CountsAs i u c d) t acts a.sent out)
  pub halves : IsTrue a.told → (half : Half) → IsInUse half s → (RoseAt half a b → ⊥) → LeavesOnly (half_state half a) (half_state half b) (half_leaves half la) (half_leaves half lb) (λ c out. IsCutOfTables (λ u. IsCopyOfTables i u c) t acts a.sent out)

-- all these acts were done, and copies that have gone on from those at the start keep the tables after them, of which this half is lost
pub record DidTwice (i : Identity) (s : Twice) (t : TableRows) (acts : List Act) (lost : Option Half) (a b : Both) (lb : ℕ → List ℕ → List ℕ → List ℕ → Type 0) : Type 0 where
  pub now : Twice
  pub lost_is : lost ≡ now.lost
  pub twice : IsTwice now
  pub own : Identity
  pub since : CopiesSince s a b own now
  pub keeps : KeepsTablesTwice i now (tables_after t acts)
  pub kept : IsKeptTwice now b lb
  pub sent : b.sent ≡ a.sent ++ bytes_of acts

-- a front of these lines was sent, perhaps none of it or all, and no disk was touched
pub record SaysTwice (lines : List Act) (a b : Both) (la lb : ℕ → List ℕ → List ℕ → List ℕ → Type 0) : Type 0 where
  pub disks : (half : Half) → SameDisk half a b
  pub frame : (half : Half) → Frame (half_state half a) (half_state half b)
  pub stop : IsTrue a.told → LeavesSamePairs a b la lb
  pub any_moment : IsTrue a.told → LeavesPairs a b la lb (λ c d out. la a.moment c d a.sent × SendsPart lines a.sent out)
