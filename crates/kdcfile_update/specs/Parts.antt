-- The parts of an update, over a store that was opened.
use Rattle.std.specs.Prelude.{◌≡◌, ◌⊎◌, ◌≤◌, ◌++◌, ℕ, List, IsTrue, Err}
use Rattle.kd_device.specs.Device.{State, Frame, SameNames, LeavesOnly, Only}
use Rattle.kd_device.specs.Rest.{Rests}
use Rattle.kd_records.specs.Charge.{total_charge}
use Rattle.kd_records.specs.Contents.{IsContent}
use Rattle.kd_records.specs.Identity.{Identity, IsIdentity}
use Rattle.kd_records.specs.declared.content.Content.{Content}
use Rattle.kdcfile_store.specs.Paged.{Paged}
use Rattle.kdcs_types.specs.declared.act.Act.{Act}
use Rattle.kdcs_types.specs.Tables.{TableRows}
use Rattle.application_types.specs.Generation.{Generated}
use Rattle.abstract_monitor.specs.Trace.{bytes_of}
use Rattle.laws_of_states.specs.Suits.{SuitsFrom}
use Rattle.device_acts.specs.Stands.{KeepsTables, StandsForTables}
use Rattle.kd_update.specs.declared.error.UpdateError.{UpdateError}
use Rattle.kd_update.specs.declared.error.UpdateError.TheVariants.{NotKdcfile}
use Rattle.device_acts.specs.Acting.{WritesUpTo}
use Rattle.device_acts.specs.Said.{SameDisk}
use Rattle.kdcfile_update.specs.Updating.{Stored, IsUpToDate, IsTaken, IsUpdateCut, judgement, report_of, update_most}

-- what the file of a store was made with, and the tables that it keeps
abbrev pub stored_in : Paged → TableRows → Stored
stored_in store t = record { identity = store.identity; tables = t }

-- the store keeps these tables, with sizes and a content that a file can have
pub record IsOpened (store : Paged) (t : TableRows) : Type 0 where
  pub identity : IsIdentity store.identity
  pub content : IsContent store.content
  pub keeps : KeepsTables store.identity store t

-- the file is of these texts, and its tables do not suit
pub record IsUnsuited (g : Generated) (fingerprint : List ℕ) (s : Stored) : Type 0 where
  pub own_texts : s.identity.fingerprint ≡ fingerprint
  pub unsuited : SuitsFrom g s.identity.blksize s.identity.pages s.tables → ⊥

-- the file is of other texts, and its tables are judged so
pub record IsOfOthers (g : Generated) (fingerprint : List ℕ) (s : Stored) (why : UpdateError) : Type 0 where
  pub differs : s.identity.fingerprint ≡ fingerprint → ⊥
  pub judged : judgement g s ≡ Err why

-- why the tables are not taken
abbrev pub IsRefusedAs : Generated → (fingerprint : List ℕ) → Stored → UpdateError → Type 0
IsRefusedAs g fingerprint s why = ((why ≡ NotKdcfile) × IsUnsuited g fingerprint s) ⊎ IsOfOthers g fingerprint s why

-- whatever became of the update of an opened file
pub record WithinUpdate (g : Generated) (fingerprint : List ℕ) (s : Stored) (a b : State) (la lb : ℕ → List ℕ → List ℕ → Type 0) : Type 0 where
  pub frame : Frame a b
  pub names : SameNames a b
  pub still : IsTrue a.told → (IsTaken g fingerprint s → ⊥) → Rests a b la lb
  pub any_moment : IsTrue a.told → LeavesOnly a b la lb (IsUpdateCut g fingerprint s a.sent)
  pub written : IsTrue a.told → (b.put ≡ a.put) ⊎ (IsTaken g fingerprint s × WritesUpTo (λ acts. update_most g fingerprint s) (report_of g fingerprint s) a b)
  pub left : IsTrue a.told → IsUpToDate g fingerprint s → SameDisk a b

-- a store of this BLKSIZE and PGPOOL can keep the content in place of its own
pub record CanCarry (blksize pgpool : ℕ) (store : Paged) (x : Content) : Type 0 where
  pub block : blksize ≡ store.identity.blksize
  pub pool : store.identity.pages ≤ pgpool
  pub content : IsContent x
  pub before : total_charge store.identity.blksize store.content.items ≤ store.identity.pages
  pub after : total_charge blksize x.items ≤ pgpool

-- the lines were sent, the file stands for these tables, and a stop leaves just it
pub record IsReported (i : Identity) (t : TableRows) (acts : List Act) (a b : State) (lb : ℕ → List ℕ → List ℕ → Type 0) : Type 0 where
  pub sent : b.sent ≡ a.sent ++ bytes_of acts
  pub holds : StandsForTables i t b.holds
  pub at_rest : Only b.holds b lb
